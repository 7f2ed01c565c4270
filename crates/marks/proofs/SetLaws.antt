-- What callers know of a set: its members are numbers of blocks, and how many there are. Assumes nothing.
use Prim.Native.Nat.{ℕ, zero, suc, ◌≤◌, ◌<◌}
use native.Mathlib.Omega.{arith}
use mathlib.Core.Path.{◌≡◌, refl, sym, ap, ◌∙◌}
use mathlib.Core.Bool.{Bool, true, false, not, ◌||◌, true≢false}
use mathlib.Core.Logic.{inl, inr}
use mathlib.Core.List.{List, [], ◌∷◌}
use lib.Dec.{eqb, not_T, eqb_refl}
use lib.ListN.{length, get_or}
use borrow.Author.Tests.{eq-eqb, ne_eqb, eqb-true, eqb-false}
use Rattle.limits.specs.Limits.{blocks}
use Rattle.lists.proofs.Choices.{split_lt}
use Rattle.lists.proofs.Tables.{within}
use Rattle.rules.specs.Lists.{any, mem}
use Rattle.rules.proofs.Membership.{In, T→≡, F→≡, mem→}
use Rattle.rules.proofs.Counting.{one, tally, count, Once, In→count}
use Rattle.marks.specs.Sets.{room, member, below, size}

not_zero : (x : ℕ) → not (eqb x 0) ≡ true → 0 < x
not_zero zero e = absurd (true≢false (sym e))
not_zero (suc x) e = omega arith

-- a member is the number of a block
pub member_below : (s : List ℕ) (n : ℕ) → length s ≡ room → member s n ≡ true → n < blocks
unfolding member
member_below s n h e = omega (arith, within s n (not_zero (get_or s n 0) e), h)

-- ---- how many of the first n numbers pass a test
one_most : (b : Bool) → one b ≤ 1
one_most true = omega arith
one_most false = omega arith

below_same : (p q : ℕ → Bool) (n : ℕ) → ((m : ℕ) → m < n → p m ≡ q m) → below p n ≡ below q n
unfolding below
below_same p q zero h = refl
below_same p q (suc n) h = omega (arith, ap one (h n (omega arith)), below_same p q n (λ m l. h m (omega (arith, l))))

below_none : (p : ℕ → Bool) (n : ℕ) → ((m : ℕ) → p m ≡ false) → below p n ≡ 0
unfolding below
below_none p zero h = refl
below_none p (suc n) h = omega (arith, ap one (h n), below_none p n h)

below_most : (p : ℕ → Bool) (n : ℕ) → below p n ≤ n
unfolding below
below_most p zero = omega arith
below_most p (suc n) = omega (arith, one_most (p n), below_most p n)

below_room : (p : ℕ → Bool) (n k : ℕ) → k < n → p k ≡ false → below p n < n
unfolding below
below_room p zero k h e = absurd (omega (arith, h))
below_room p (suc n) k h e =
    split_lt k n
    (λ l. omega (arith, one_most (p n), below_room p n k l e))
    (λ l. let q : k ≡ n = omega (arith, h, l) in omega (arith, ap one (ap p (sym q) ∙ e), below_most p n))

below_more : (p q : ℕ → Bool) (n k : ℕ) → k < n → p k ≡ false → ((m : ℕ) → q m ≡ eqb m k || p m) → below q n ≡ suc (below p n)
unfolding below
below_more p q zero k h e w = absurd (omega (arith, h))
below_more p q (suc n) k h e w =
    split_lt k n
    (λ l. omega (arith, ap one (w n ∙ ap (λ (b : Bool). b || p n) (ne_eqb n k (λ z. omega (arith, l, z)))), below_more p q n k l e w))
    (λ l.
    let z : k ≡ n = omega (arith, h, l) in
    let new : q n ≡ true = w n ∙ ap (λ (b : Bool). b || p n) (eq-eqb n k (sym z)) in
    let old : p n ≡ false = ap p (sym z) ∙ e in
    omega (arith, ap one new, ap one old, below_same q p n (λ m j. w m ∙ ap (λ (b : Bool). b || p m) (ne_eqb m k (λ y. omega (arith, j, y, z))))))

-- ---- how many are in the set
pub size_none : (s : List ℕ) → ((m : ℕ) → member s m ≡ false) → size s ≡ 0
unfolding size
size_none s h = below_none (member s) blocks h

pub size_most : (s : List ℕ) → size s ≤ blocks
unfolding size
size_most s = below_most (member s) blocks

-- a block that is not in the set leaves room for it
pub size_room : (s : List ℕ) (n : ℕ) → n < blocks → member s n ≡ false → size s < blocks
unfolding size
size_room s n h e = below_room (member s) blocks n h e

-- t has n besides what s has
pub size_more : (s t : List ℕ) (n : ℕ) → n < blocks → member s n ≡ false → ((m : ℕ) → member t m ≡ eqb m n || member s m) → size t ≡ suc (size s)
unfolding size
size_more s t n h e w = below_more (member s) (member t) blocks n h e w

-- ---- a set that has just what a list has, each once
pub eqb_turn : (a b : ℕ) → eqb a b ≡ eqb b a
eqb_turn a b = go (eqb a b) refl
  where
    go : (c : Bool) → eqb a b ≡ c → c ≡ eqb b a
    go true e = sym (eq-eqb b a (sym (eqb-true a b e)))
    go false e = sym (ne_eqb b a (λ z. eqb-false a b e (sym z)))

below_list : (l : List ℕ) (n : ℕ) → Once l → ((m : ℕ) → In m l → m < n) → below (λ (m : ℕ). mem m l) n ≡ length l
unfolding mem any count tally
below_list [] n o h = below_none (λ (m : ℕ). mem m []) n (λ m. refl)
below_list (x ∷ l) n o h =
    below_more (λ (m : ℕ). mem m l) (λ (m : ℕ). mem m (x ∷ l)) n x (h x (inl refl))
    (F→≡ (mem x l) (not_T (mem x l) (λ t. omega (arith, o x, In→count x l (mem→ x l t), ap one (T→≡ (eqb x x) (eqb_refl x))))))
    (λ m. ap (λ (b : Bool). b || mem m l) (eqb_turn x m))
    ∙ ap suc (below_list l n (λ m. omega (arith, o m)) (λ m i. h m (inr i)))

pub size_list : (s l : List ℕ) → Once l → ((m : ℕ) → In m l → m < blocks) → ((m : ℕ) → member s m ≡ mem m l) → size s ≡ length l
unfolding size
size_list s l o h e = below_same (member s) (λ (m : ℕ). mem m l) blocks (λ m k. e m) ∙ below_list l blocks o h
