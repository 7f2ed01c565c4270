-- THEOREMS spread_closed and spread_least: the spread set is closed, and lies inside every closed set that holds the cold blocks.
-- Assumes nothing.
use Prim.Native.Nat.{ℕ}
use mathlib.Core.Path.{◌≡◌, refl, sym, subst}
use mathlib.Core.Bool.{not, ◌&&◌}
use mathlib.Core.List.{List, map}
use Rattle.std.specs.Prelude.{Option}
use lib.Dec.{T, eqb}
use lib.ListN.{length}
use Rattle.rules.specs.Lists.{all, mem, keep}
use Rattle.rules.specs.Graph.{Graph, numbers_of, names, Block, is_cold, entry}
use Rattle.rules.specs.Spread.{ways_in, shut_in, cold_from, cold_blocks, spreads, cold_set}
use Rattle.rules.proofs.Membership.{In, and_l, and_r, and_i, all→, →all, T→≡, F→≡, keep→, mem→, In-map, map-In}
use Rattle.rules.proofs.LeastLaws.{least_closed, least_start, least_ind}

-- a set that holds the cold blocks and every non-entry block with a way in and all ways in inside
pub record Shut (g : Graph) (e : Option ℕ) (s : List ℕ) (P : ℕ → Type 0) : Type 0 where
  pub starts : (b : ℕ) → T (mem b s) → P b
  pub shut : (b : ℕ) → In b (numbers_of g) → T (not (names e b)) → T (not (eqb (length (ways_in g b)) 0)) → ((m : ℕ) → In m (ways_in g b) → P m) → P b

cold_least : (g : Graph) (e : Option ℕ) (s : List ℕ) (P : ℕ → Type 0) → Shut g e s P → (b : ℕ) → T (mem b (cold_from g e s)) → P b
unfolding cold_from shut_in
cold_least g e s P k b t = least_ind (numbers_of g) (shut_in g e) P
    (λ r c h u a. let x = and_l (not (names e c) && not (eqb (length (ways_in g c)) 0)) (all (λ (m : ℕ). mem m r) (ways_in g c)) a in
    k.shut c u (and_l (not (names e c)) (not (eqb (length (ways_in g c)) 0)) x) (and_r (not (names e c)) (not (eqb (length (ways_in g c)) 0)) x)
    (λ m i. h m (all→ (λ (n : ℕ). mem n r) (ways_in g c) (and_r (not (names e c) && not (eqb (length (ways_in g c)) 0)) (all (λ (n : ℕ). mem n r) (ways_in g c)) a) m i)))
    s k.starts b t

cold_closed : (g : Graph) (e : Option ℕ) (s : List ℕ) → ((b : ℕ) → T (mem b s) → In b (numbers_of g)) → Shut g e s (λ (b : ℕ). T (mem b (cold_from g e s)))
unfolding cold_from shut_in
cold_closed g e s h = record {
  starts = λ b t. least_start (numbers_of g) (shut_in g e) s b (h b t) t;
  shut = λ b u x y z. least_closed (numbers_of g) (shut_in g e) s b u
      (and_i (not (names e b) && not (eqb (length (ways_in g b)) 0)) (all (λ (m : ℕ). mem m (cold_from g e s)) (ways_in g b))
      (and_i (not (names e b)) (not (eqb (length (ways_in g b)) 0)) x y) (→all (λ (m : ℕ). mem m (cold_from g e s)) (ways_in g b) z));
}

-- ---- the cold set of a graph
cold_listed : (g : Graph) (b : ℕ) → T (mem b (cold_blocks g)) → In b (numbers_of g)
unfolding cold_blocks numbers_of
cold_listed g b t =
    let r = map-In (λ (b : Block). b.number) (keep (λ (b : Block). is_cold b.marks) g) b (mem→ b (map (λ (b : Block). b.number) (keep (λ (b : Block). is_cold b.marks) g)) t) in
    subst (λ (x : ℕ). In x (map (λ (b : Block). b.number) g)) (sym r.2)
    (In-map (λ (b : Block). b.number) g r.0 (keep→ (λ (b : Block). is_cold b.marks) g r.0 r.1).0)

module _ (g : Graph) where
  spread_all : T (spreads g) → cold_set g ≡ cold_from g (entry g) (cold_blocks g)
  unfolding cold_set
  spread_all t = rw (T→≡ (spreads g) t, cold_set) refl

  -- THE THEOREMS
  pub spread_closed : T (spreads g) → Shut g (entry g) (cold_blocks g) (λ (b : ℕ). T (mem b (cold_set g)))
  spread_closed t =
      subst (λ (s : List ℕ). Shut g (entry g) (cold_blocks g) (λ (b : ℕ). T (mem b s))) (sym (spread_all t))
      (cold_closed g (entry g) (cold_blocks g) (cold_listed g))

  pub spread_least : T (spreads g) → (P : ℕ → Type 0) → Shut g (entry g) (cold_blocks g) P → (b : ℕ) → T (mem b (cold_set g)) → P b
  spread_least t P k b m =
      cold_least g (entry g) (cold_blocks g) P k b
      (subst (λ (s : List ℕ). T (mem b s)) (spread_all t) m)

  -- otherwise nothing is added
  pub spread_none : T (not (spreads g)) → cold_set g ≡ cold_blocks g
  unfolding cold_set
  spread_none t = rw (F→≡ (spreads g) t, cold_set) refl
