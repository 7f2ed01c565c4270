-- THEOREM plain_once: each listed block stands in the plain order exactly once. Assumes nothing.
use Prim.Native.Nat.{ℕ, zero, suc, ◌+◌}
use native.Mathlib.Omega.{arith}
use mathlib.Core.Path.{◌≡◌, refl, sym, subst}
use mathlib.Core.Bool.{Bool, true, false, not}
use mathlib.Core.Logic.{◌⊎◌, inl, inr, ⊎_elim}
use mathlib.Core.List.{List, [], ◌∷◌, ◌++◌, reverse}
use Rattle.std.specs.Prelude.{Option, None, Some}
use lib.Dec.{T, eqb, T_not, not_T}
use lib.ListN.{length}
use Rattle.rules.specs.Lists.{keep, foldl, mem}
use Rattle.rules.specs.Graph.{Graph, block_at, numbers_of, targets, entry}
use Rattle.rules.specs.PlainOrder.{Walk, visit, order}
use Rattle.rules.proofs.Membership.{In, test, keep→, mem→}
use Rattle.rules.proofs.Counting.{tally, tally_append, tally_reverse, count, Once, count_zero, In→count, count→In, fresh, count_keep}
use Rattle.rules.proofs.Wholeness.{Whole, block_in, entry_in}

module _ (g : Graph) (w : Whole g) (o : Once (numbers_of g)) where
  pub record Inv (v : Walk) : Type 0 where
    pub once : Once v.seen
    pub sub : (m : ℕ) → In m v.seen → In m (numbers_of g)

  pub record Step (u v : Walk) : Type 0 where
    pub inv : Inv v
    pub same : (m : ℕ) → count m v.seen + count m u.done ≡ count m v.done + count m u.seen

  folds : (f : Walk → ℕ → Walk) → ((u : Walk) (n : ℕ) → In n (numbers_of g) → Inv u → Step u (f u n)) → (l : List ℕ) → ((n : ℕ) → In n l → In n (numbers_of g)) → (u : Walk) → Inv u → Step u (foldl f u l)
  unfolding foldl
  folds f h [] s u i = record { inv = i; same = λ m. omega arith }
  folds f h (x ∷ l) s u i =
      let a = h u x (s x (inl refl)) i in
      let b = folds f h l (λ n j. s n (inr j)) (f u x) a.inv in
      record { inv = b.inv; same = λ m. omega (arith, a.same m, b.same m) }

  visit_ok : (k : ℕ) (u : Walk) (n : ℕ) → In n (numbers_of g) → Inv u → Step u (visit g k u n)
  unfolding visit count tally
  visit_ok zero u n j i = record { inv = i; same = λ m. omega arith }
  visit_ok (suc k) u n j i = go (visit_ok k) (mem n u.seen) refl
    where
      v : Walk
      v = record { seen = n ∷ u.seen; done = u.done }

      ts : List ℕ
      ts = reverse (targets (block_at g n))

      r : Walk
      r = foldl (visit g k) v ts

      listed : (c : ℕ) → In c ts → In c (numbers_of g)
      listed c q = w (block_at g n) (block_in g n j).0 c (count→In c (targets (block_at g n)) (omega (arith, In→count c ts q, tally_reverse (λ (x : ℕ). eqb x c) (targets (block_at g n)))))

      go : ((u : Walk) (n : ℕ) → In n (numbers_of g) → Inv u → Step u (visit g k u n)) → (b : Bool) → mem n u.seen ≡ b → Step u (elim b [ true ↦ u | false ↦ record { seen = r.seen; done = n ∷ r.done } ])
      go ih true e = record { inv = i; same = λ m. omega arith }
      go ih false e =
          let a : Step v r = folds (visit g k) ih ts listed v (record { once = fresh n u.seen i.once (rw e tt); sub = λ m q. ⊎_elim (λ p. subst (λ (x : ℕ). In x (numbers_of g)) (sym p) j) (i.sub m) q }) in
          record { inv = record { once = a.inv.once; sub = a.inv.sub }; same = λ m. omega (arith, a.same m) }

  pub plain_once : (m : ℕ) → count m (order g) ≡ count m (numbers_of g)
  unfolding order count tally
  plain_once m = go (entry g) refl
    where
      go : (e : Option ℕ) → entry g ≡ e → count m (elim e as (λ (x : Option ℕ). List ℕ) [
        | None ↦ numbers_of g
        | Some e ↦
            let v = visit g (length g) (record { seen = []; done = [] }) e in v.done ++ keep (λ (n : ℕ). not (mem n v.seen)) (numbers_of g)
      ]) ≡ count m (numbers_of g)
      go None q = refl
      go (Some e) q = done (test (mem m v.seen))
        where
          z : Walk
          z = record { seen = []; done = [] }

          v : Walk
          v = visit g (length g) z e

          a : Step z v
          a = visit_ok (length g) z e (entry_in g e q) (record { once = λ k. omega arith; sub = λ k i. absurd i })

          done : T (mem m v.seen) ⊎ T (not (mem m v.seen)) → count m (v.done ++ keep (λ (n : ℕ). not (mem n v.seen)) (numbers_of g)) ≡ count m (numbers_of g)
          done (inl t) =
              let one_seen = In→count m v.seen (mem→ m v.seen t) in
              let listed = In→count m (numbers_of g) (a.inv.sub m (mem→ m v.seen t)) in
              let gone : count m (keep (λ (n : ℕ). not (mem n v.seen)) (numbers_of g)) ≡ 0 =
              count_zero m (keep (λ (n : ℕ). not (mem n v.seen)) (numbers_of g)) (not_T (mem m (keep (λ (n : ℕ). not (mem n v.seen)) (numbers_of g)))
              (λ c. T_not (mem m v.seen) (keep→ (λ (n : ℕ). not (mem n v.seen)) (numbers_of g) m (mem→ m (keep (λ (n : ℕ). not (mem n v.seen)) (numbers_of g)) c)).1 t)) in
              omega (arith, tally_append (λ (x : ℕ). eqb x m) v.done (keep (λ (n : ℕ). not (mem n v.seen)) (numbers_of g)), a.same m, a.inv.once m, o m, one_seen, listed, gone)
          done (inr f) = omega (
            arith,
            tally_append (λ (x : ℕ). eqb x m) v.done (keep (λ (n : ℕ). not (mem n v.seen)) (numbers_of g)),
            a.same m,
            count_zero m v.seen f,
            count_keep (λ (n : ℕ). not (mem n v.seen)) (numbers_of g) m f,
          )
