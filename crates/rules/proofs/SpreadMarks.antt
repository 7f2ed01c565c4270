-- After spreading a block is cold exactly when it is of the cold set; its number, end, weight and arms are as before. Assumes nothing.
use Prim.Native.Nat.{ℕ, ◌+◌, ◌/◌, ◌%◌}
use native.Mathlib.Omega.{arith}
use mathlib.Core.Path.{◌≡◌, refl, sym, ap, ◌∙◌, subst}
use mathlib.Core.Bool.{Bool, true, false, not, ◌&&◌, cond}
use mathlib.Core.Logic.{◌⊎◌, inl, inr}
use mathlib.Core.List.{List, [], ◌∷◌, map}
use lib.Dec.{T, eqb, eqb_refl}
use borrow.Author.Tests.{eq-eqb, eqb-false}
use Rattle.rules.specs.Lists.{keep, find, mem}
use Rattle.rules.specs.Graph.{Block, Graph, bit, is_cold, block_at, cold_at, numbers_of, entry}
use Rattle.rules.specs.Spread.{shut_in, cold_from, cold_blocks, spreads, cold_set, chilled, spread}
use Rattle.rules.proofs.Membership.{In, →keep, →mem, In-map}
use Rattle.rules.proofs.LeastLaws.{least_start}
use Rattle.rules.proofs.Wholeness.{block_in}
use Rattle.rules.proofs.Forwarded.{chilled_number, chilled_arms}

-- ---- a block by its number, after a change that keeps numbers
mapped_block : (f : Block → Block) → ((b : Block) → (f b).number ≡ b.number) → (g : Graph) (n : ℕ) → In n (numbers_of g) → block_at (map f g) n ≡ f (block_at g n)
unfolding block_at find numbers_of
mapped_block f h [] n i = absurd i
mapped_block f h (b ∷ g) n i = go (mapped_block f h g n) (eqb b.number n) refl i
  where
    go : (In n (numbers_of g) → block_at (map f g) n ≡ f (block_at g n)) → (t : Bool) → eqb b.number n ≡ t → (n ≡ b.number) ⊎ In n (numbers_of g)
        → cond (eqb (f b).number n) (f b) (block_at (map f g) n) ≡ f (cond t b (block_at g n))
    go ih true e i = rw (h b, e) refl
    go ih false e (inl q) = absurd (subst T e (subst (λ (k : ℕ). T (eqb b.number k)) (sym q) (eqb_refl b.number)))
    go ih false e (inr j) = rw (h b, e) (ih j)

-- ---- the cold set holds the cold blocks
cold_in : (g : Graph) (b : Block) → In b g → T (is_cold b.marks) → T (mem b.number (cold_blocks g))
unfolding cold_blocks
cold_in g b i t =
    →mem b.number (map (λ (b : Block). b.number) (keep (λ (b : Block). is_cold b.marks) g))
    (In-map (λ (b : Block). b.number) (keep (λ (b : Block). is_cold b.marks) g) b (→keep (λ (b : Block). is_cold b.marks) g b i t))

pub cold_stays : (g : Graph) (b : Block) → In b g → T (is_cold b.marks) → T (mem b.number (cold_set g))
unfolding cold_set cold_from numbers_of
cold_stays g b i t = go (spreads g)
  where
    go : (c : Bool) → T (mem b.number (elim c as (λ (x : Bool). List ℕ) [ true ↦ cold_from g (entry g) (cold_blocks g) | false ↦ cold_blocks g ]))
    go true = least_start (numbers_of g) (shut_in g (entry g)) (cold_blocks g) b.number (In-map (λ (b : Block). b.number) g b i) (cold_in g b i t)
    go false = cold_in g b i t

-- ---- the mark
now_cold : (m : ℕ) → is_cold m ≡ false → is_cold (m + 2) ≡ true
unfolding is_cold bit
now_cold m e =
    let d : m / 2 % 2 ≡ 1 → ⊥ = eqb-false (m / 2 % 2) 1 e in
    let f : (m + 2) / 2 % 2 ≡ 1 = omega (arith, d) in
    eq-eqb ((m + 2) / 2 % 2) 1 f

chilled_cold : (s : List ℕ) (b : Block) → (T (is_cold b.marks) → T (mem b.number s)) → is_cold (chilled s b).marks ≡ mem b.number s
unfolding chilled
chilled_cold s b h = go (mem b.number s) (is_cold b.marks) refl h
  where
    cool : Block
    cool = record { number = b.number; marks = b.marks + 2; end = b.end; weight = b.weight; arms = b.arms }

    go : (x y : Bool) → is_cold b.marks ≡ y → (T y → T x) → is_cold (elim (x && not y) as (λ (z : Bool). Block) [ false ↦ b | true ↦ cool ]).marks ≡ x
    go true true e k = e
    go true false e k = now_cold b.marks e
    go false true e k = absurd (k tt)
    go false false e k = e

pub spread_cold : (g : Graph) (n : ℕ) → In n (numbers_of g) → cold_at (spread g) n ≡ mem n (cold_set g)
unfolding spread cold_at
spread_cold g n i =
    let r = block_in g n i in
    ap (λ (b : Block). is_cold b.marks) (mapped_block (chilled (cold_set g)) (chilled_number (cold_set g)) g n i)
    ∙ chilled_cold (cold_set g) (block_at g n) (cold_stays g (block_at g n) r.0)
    ∙ ap (λ (k : ℕ). mem k (cold_set g)) r.1

-- its arms are as they were
pub spread_arms : (g : Graph) (n : ℕ) → In n (numbers_of g) → (block_at (spread g) n).arms ≡ (block_at g n).arms
unfolding spread
spread_arms g n i =
    ap (λ (b : Block). b.arms) (mapped_block (chilled (cold_set g)) (chilled_number (cold_set g)) g n i) ∙ chilled_arms (cold_set g) (block_at g n)
