-- What a walk still owes: a removal for each arm that is not started and one for each block that is not finished, of the blocks on
-- the stack and of those not seen. Every removal lowers it. Assumes nothing.
use Prim.Native.Nat.{ℕ, zero, suc, ◌+◌, ◌-◌, ◌≤◌, ◌<◌}
use native.Mathlib.Omega.{arith}
use mathlib.Core.Path.{◌≡◌, refl, sym, ap, ◌∙◌}
use mathlib.Core.Bool.{Bool, true, false, cond, ◌||◌}
use mathlib.Core.List.{List, [], ◌∷◌}
use lib.Dec.{eqb}
use lib.ListN.{get_or}
use borrow.Author.Tests.{eq-eqb, ne_eqb}
use Rattle.limits.specs.Limits.{blocks}
use Rattle.lists.proofs.Choices.{split_lt}
use Rattle.rules.proofs.StackWalk.{Frame}
use Rattle.marks.specs.Sets.{member}
use Rattle.stack.specs.Frames.{frame}

module _ (count : List ℕ) where
  abbrev cost : ℕ → ℕ
  cost n = suc (get_or count n 0)

  unfoldable pub owed : List Frame → ℕ
  owed [] = 0
  owed (f ∷ st) = (cost f.block - f.next) + owed st

  -- of the first n numbers those that do not pass the test
  unfoldable pub ahead : (ℕ → Bool) → ℕ → ℕ
  ahead p zero = 0
  ahead p (suc n) = cond (p n) 0 (cost n) + ahead p n

  unfoldable pub owes : List Frame → List ℕ → ℕ
  owes st seen = owed st + ahead (member seen) blocks

  ahead_same : (p q : ℕ → Bool) (n : ℕ) → ((m : ℕ) → m < n → p m ≡ q m) → ahead p n ≡ ahead q n
  unfolding ahead
  ahead_same p q zero h = refl
  ahead_same p q (suc n) h = omega (arith, ap (λ (b : Bool). cond b 0 (cost n)) (h n (omega arith)), ahead_same p q n (λ m l. h m (omega (arith, l))))

  ahead_less : (p q : ℕ → Bool) (n k : ℕ) → k < n → p k ≡ false → ((m : ℕ) → q m ≡ eqb m k || p m) → ahead p n ≡ cost k + ahead q n
  unfolding ahead
  ahead_less p q zero k h e w = absurd (omega (arith, h))
  ahead_less p q (suc n) k h e w =
      split_lt k n
      (λ l. omega (arith, ap (λ (b : Bool). cond b 0 (cost n)) (w n ∙ ap (λ (b : Bool). b || p n) (ne_eqb n k (λ z. omega (arith, l, z)))), ahead_less p q n k l e w))
      (λ l.
      let z : k ≡ n = omega (arith, h, l) in
      let new : q n ≡ true = w n ∙ ap (λ (b : Bool). b || p n) (eq-eqb n k (sym z)) in
      let old : p n ≡ false = ap p (sym z) ∙ e in
      omega (
        arith,
        ap cost z,
        ap (λ (b : Bool). cond b 0 (cost n)) new,
        ap (λ (b : Bool). cond b 0 (cost n)) old,
        ahead_same q p n (λ m j. w m ∙ ap (λ (b : Bool). b || p m) (ne_eqb m k (λ y. omega (arith, j, y, z)))),
      ))

  module _ (b j : ℕ) (st : List Frame) (seen : List ℕ) where
    -- the block is finished
    end_less : j ≤ get_or count b 0 → owes st seen < owes (frame b j ∷ st) seen
    unfolding owes owed
    end_less h = omega (arith, h)

    -- an arm is passed
    old_less : j < get_or count b 0 → owes (frame b (j + 1) ∷ st) seen < owes (frame b j ∷ st) seen
    unfolding owes owed
    old_less h = omega (arith, h)

    -- what it leads to is entered
    new_less : (t : ℕ) (seen' : List ℕ) → j < get_or count b 0 → t < blocks → member seen t ≡ false → ((m : ℕ) → member seen' m ≡ eqb m t || member seen m)
        → owes (frame t 0 ∷ frame b (j + 1) ∷ st) seen' < owes (frame b j ∷ st) seen
    unfolding owes owed
    new_less t seen' h l e w = omega (arith, h, ahead_less (member seen) (member seen') blocks t l e w)

-- the same of the stack before, which had block b on top, and after
module _ (count seen : List ℕ) {b j : ℕ} {st before : List Frame} (had : before ≡ frame b j ∷ st) where
  pub owes_end : j ≤ get_or count b 0 → owes count st seen < owes count before seen
  owes_end h = rw had (end_less count b j st seen h)

  pub owes_old : {after : List Frame} → after ≡ frame b (j + 1) ∷ st → j < get_or count b 0 → owes count after seen < owes count before seen
  owes_old has h = rw (had, has) (old_less count b j st seen h)

  pub owes_new : (seen' : List ℕ) {t : ℕ} {up after : List Frame} → up ≡ frame b (j + 1) ∷ st → after ≡ frame t 0 ∷ up → j < get_or count b 0 → t < blocks → member seen t ≡ false → ((m : ℕ) → member seen' m ≡ eqb m t || member seen m)
      → owes count after seen' < owes count before seen
  owes_new seen' {t} lifted has h l e w = rw (had, has, lifted) (new_less count b j st seen t seen' h l e w)
