-- The traces by the tables: where they begin and end, and what their blocks are. Assumes nothing.
use Prim.Native.Nat.{ℕ, zero, suc, ◌+◌, ◌-◌, ◌≤◌, ◌<◌}
use native.Mathlib.Omega.{arith}
use mathlib.Core.Path.{◌≡◌, refl, sym, ap, ◌∙◌, subst}
use mathlib.Core.List.{List, [], ◌∷◌, ◌++◌}
use lib.ListN.{length, get_or, take, length-append, get_or-append}
use lib.Seq.{slice, slice-cons, get_or_at, take-take}
use Rattle.std.proofs.lemmas.Slice.{take-put_mid}
use Rattle.lists.proofs.Choices.{split_lt}
use Rattle.rules.specs.Lists.{first_or}
use Rattle.rules.proofs.Membership.{In}
use Rattle.flow.proofs.PartLaws.{In-take, In-drop}
use Rattle.connect.specs.Joined.{begin_of, traces_in}

-- ---- where traces begin
pub begin_before : (ends : List ℕ) (k : ℕ) → (k ≡ 0 → ⊥) → get_or ends (k - 1) 0 ≡ begin_of ends k
unfolding begin_of
begin_before ends zero h = absurd (h refl)
begin_before ends (suc k) h = let e : suc k - 1 ≡ k = omega arith in rw e refl

pub next_begin : (ends : List ℕ) (j : ℕ) → begin_of ends (suc j) ≡ get_or ends j 0
unfolding begin_of
next_begin ends j = refl

module _ (ends : List ℕ) (found : ℕ) (rising : (k : ℕ) → k < found → begin_of ends k < get_or ends k 0) where
  climb : (d j : ℕ) → j + d ≡ found → begin_of ends j ≤ begin_of ends found
  climb zero j q = let e : j ≡ found = omega (arith, q) in omega (arith, ap (begin_of ends) e)
  climb (suc d) j q = omega (arith, rising j (omega (arith, q)), next_begin ends j, climb d (suc j) (omega (arith, q)))

  -- none past the last one's end
  pub ends_low : (j : ℕ) → j < found → get_or ends j 0 ≤ begin_of ends found
  ends_low j h = omega (arith, next_begin ends j, climb (found - suc j) (suc j) (omega (arith, h)))

  -- each has a block
  pub ends_many : found ≤ begin_of ends found
  unfolding begin_of
  ends_many = go found (omega arith)
    where
      go : (k : ℕ) → k ≤ found → k ≤ begin_of ends k
      go zero h = omega arith
      go (suc k) h = omega (arith, go k (omega (arith, h)), rising k (omega (arith, h)), next_begin ends k)

-- ---- the traces
module _ (order ends : List ℕ) where
  pub traces_many : (k : ℕ) → length (traces_in order ends k) ≡ k
  unfolding traces_in
  traces_many zero = refl
  traces_many (suc k) =
      omega (arith, length-append (traces_in order ends k) (slice (begin_of ends k) (get_or ends k 0) order ∷ []), traces_many k)

  pub trace_at : (found k : ℕ) → k < found → get_or (traces_in order ends found) k [] ≡ slice (begin_of ends k) (get_or ends k 0) order
  unfolding traces_in
  trace_at zero k h = absurd (omega (arith, h))
  trace_at (suc n) k h =
      split_lt k n
      (λ l. get_or-append (traces_in order ends n) (slice (begin_of ends n) (get_or ends n 0) order ∷ []) [] k (omega (arith, l, traces_many n)) ∙ trace_at n k l)
      (λ l.
      let e : n ≡ k = omega (arith, h, l) in
      subst (λ (j : ℕ). get_or (traces_in order ends n ++ (slice (begin_of ends n) (get_or ends n 0) order ∷ [])) j [] ≡ slice (begin_of ends j) (get_or ends j 0) order) e
      (get_or_at (traces_in order ends n) (slice (begin_of ends n) (get_or ends n 0) order) [] [] n (traces_many n)))

-- ---- a part of a list
pub first_of : (d : ℕ) (l : List ℕ) (a b : ℕ) → a < b → b ≤ length l → first_or d (slice a b l) ≡ get_or l a 0
unfolding first_or
first_of d l a b h k = ap (first_or d) (slice-cons a b l 0 h k)

pub part_in : (n a b all : ℕ) (l : List ℕ) → b ≤ all → In n (slice a b l) → In n (take all l)
part_in n a b all l h i = In-take n b (take all l) (subst (In n) (sym (take-take b all l h)) (In-drop n a (take b l) i))

pub ruleset put_behind = (take-put_mid)
