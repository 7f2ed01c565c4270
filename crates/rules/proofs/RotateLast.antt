-- THEOREM exit_last: where a part of a trace turns, the chosen exit's block comes last, and what was after it first. Assumes nothing.
use Prim.Native.Nat.{ℕ, zero, suc, ◌+◌, ◌≤◌, ◌<◌}
use native.Mathlib.Omega.{arith}
use mathlib.Core.Path.{◌≡◌, refl, ap, ◌∙◌}
use mathlib.Core.Bool.{Bool, true, false, not, cond}
use mathlib.Core.Logic.{⊎_elim}
use mathlib.Core.List.{List, [], ◌∷◌, ◌++◌, map}
use Rattle.std.specs.Prelude.{Option, None, Some}
use lib.Dec.{leb}
use lib.ListN.{length, get_or, take, drop, length-take}
use Rattle.rules.specs.Lists.{keep, best, last_or, mem}
use Rattle.rules.specs.Graph.{Arm, Graph, block_at}
use Rattle.rules.specs.Rotate.{WayOut, worse, ways_out, turned}
use Rattle.rules.proofs.Membership.{In, best_in, map-In, append-In}

last_append : (d : ℕ) (xs ys : List ℕ) → 0 < length ys → last_or d (xs ++ ys) ≡ last_or d ys
unfolding last_or
last_append d [] ys h = refl
last_append d (x ∷ []) [] h = absurd (omega (arith, h))
last_append d (x ∷ []) (y ∷ ys) h = refl
last_append d (x ∷ z ∷ xs) ys h = last_append d (z ∷ xs) ys h

last_take : (d : ℕ) (l : List ℕ) (k : ℕ) → k < length l → last_or d (take (suc k) l) ≡ get_or l k d
unfolding last_or
last_take d [] k h = absurd (omega arith)
last_take d (x ∷ l) zero h = refl
last_take d (x ∷ []) (suc k) h = absurd (omega arith)
last_take d (x ∷ y ∷ l) (suc k) h = last_take d (y ∷ l) k (omega arith)

-- a way out is from a block of the part
way_index : (g : Graph) (preferred : ℕ → Bool) (part : List ℕ) (i : ℕ) (l : List ℕ) (w : WayOut) → In w (ways_out g preferred part i l) → (i ≤ w.index) × (w.index < i + length l)
unfolding ways_out
way_index g preferred part i [] w j = absurd j
way_index g preferred part i (n ∷ l) w j =
    ⊎_elim (λ k. here (leb (length (block_at g n).arms) 2) k) (λ k. let r = way_index g preferred part (i + 1) l w k in (omega (arith, r.0), omega (arith, r.1)))
    (append-In w (cond (leb (length (block_at g n).arms) 2) ways []) (ways_out g preferred part (i + 1) l) j)
  where
    out : Arm → WayOut
    out a = record { preferred = cond (preferred a.to) 1 0; weight = a.weight; index = i }

    leaving : List Arm
    leaving = keep (λ (a : Arm). not (mem a.to part)) (block_at g n).arms

    ways : List WayOut
    ways = map out leaving

    here : (b : Bool) → In w (cond b ways []) → (i ≤ w.index) × (w.index < i + suc (length l))
    here false k = absurd k
    here true k =
        let r = map-In out leaving w k in
        let e : w.index ≡ i = ap (λ (x : WayOut). x.index) r.2 in
        (omega (arith, e), omega (arith, e))

module _ (g : Graph) (preferred : ℕ → Bool) (part : List ℕ) where
  pub exit_last : (w : WayOut) → best worse None (ways_out g preferred part 0 part) ≡ Some w → (d : ℕ) → last_or d (turned g preferred part) ≡ get_or part w.index d
  unfolding turned
  exit_last w e d =
      let i = ⊎_elim (λ q. absurd (let z : ◌≡◌ {A = ℕ} 0 1 = cc in omega arith)) (λ j. way_index g preferred part 0 part w j) (best_in worse None (ways_out g preferred part 0 part) w e) in
      let k : w.index + 1 ≡ suc w.index = omega arith in
      ap (λ (o : Option WayOut). last_or d (turn o)) e
      ∙ last_append d (drop (w.index + 1) part) (take (w.index + 1) part) (omega (arith, length-take (w.index + 1) part, i.1))
      ∙ ap (λ (n : ℕ). last_or d (take n part)) k
      ∙ last_take d part w.index (omega (arith, i.1))
    where
      turn : Option WayOut → List ℕ
      turn o = elim o as (λ (x : Option WayOut). List ℕ) [ None ↦ part | Some w ↦ drop (w.index + 1) part ++ take (w.index + 1) part ]

  -- "with no exit nothing turns"
  pub no_exit : best worse None (ways_out g preferred part 0 part) ≡ None → turned g preferred part ≡ part
  unfolding turned
  no_exit e = rw (e, turned) refl
