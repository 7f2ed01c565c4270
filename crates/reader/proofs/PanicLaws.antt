-- 9: what the reader's scan of the listed blocks says of their graph. Assumes nothing.
use Prim.Native.Nat.{ℕ, zero, suc, ◌+◌, ◌-◌, ◌<◌}
use native.Mathlib.Nat.{add-zero, add-suc}
use native.Mathlib.Omega.{arith}
use mathlib.Core.Path.{◌≡◌, sym, ap, subst, ◌∙◌}
use mathlib.Core.Bool.{true, false}
use mathlib.Core.List.{List, [], ◌∷◌, ◌++◌}
use lib.ListN.{length, get_or}
use Rattle.rules.specs.Graph as graph
use Rattle.rules.specs.declared.Fault.TheVariants.{TooManyForEnd}
use Rattle.rules.specs.Refusals.{Check, check, too_many, panic_checks, Clear, first}
use Rattle.std.specs.Prelude.{None, Some}
use Rattle.rules.proofs.Verdicts.{at, first_after, first_kept, clear_join}
use Rattle.records.specs.declared.Graph.{Graph}
use Rattle.records.specs.Tables.{leaves, block_at, up_to, tabled}
use Rattle.records.proofs.TableLaws.{leaves_count, up_to_length}
use Rattle.reader.specs.Reads.{panics_at, PanicOf}
use Rattle.reader.proofs.RefusedLaws.{told}

-- ---- the graph
panics_append : (i : ℕ) (g h : graph.Graph) → panic_checks i (g ++ h) ≡ panic_checks i g ++ panic_checks (i + length g) h
unfolding panic_checks
panics_append i [] h = rw add-zero
panics_append i (b ∷ g) h =
    let e : suc i + length g ≡ i + suc (length g) = omega arith in
    ap (λ (l : List Check). check 9 i (too_many b.end (length b.arms)) ∷ l) (panics_append (suc i) g h ∙ ap (λ (k : ℕ). panic_checks (suc i) g ++ panic_checks k h) e)

module _ (g : Graph) where
  -- the line of one block more
  panics_more : (i : ℕ) → panic_checks 0 (up_to g.b g.a (suc i)) ≡ panic_checks 0 (up_to g.b g.a i) ++ (check 9 i (panics_at g i) ∷ [])
  unfolding up_to panic_checks block_at
  panics_more i =
      let e : 0 + length (up_to g.b g.a i) ≡ i = omega (arith, up_to_length g.b g.a i) in
      panics_append 0 (up_to g.b g.a i) (block_at g.b g.a (get_or g.b.listed i 0) ∷ [])
      ∙ ap (λ (k : ℕ). panic_checks 0 (up_to g.b g.a i) ++ (check 9 k (too_many (get_or g.b.ends (get_or g.b.listed i 0) 0) (length (leaves g.a (get_or g.b.listed i 0)))) ∷ [])) e
      ∙ ap (λ (k : ℕ). panic_checks 0 (up_to g.b g.a i) ++ (check 9 i (too_many (get_or g.b.ends (get_or g.b.listed i 0) 0) k) ∷ [])) (leaves_count g.a (get_or g.b.listed i 0))

  panics_clear : (i : ℕ) → ((j : ℕ) → j < i → panics_at g j ≡ false) → Clear (panic_checks 0 (up_to g.b g.a i))
  unfolding up_to panic_checks
  panics_clear zero h = tt
  panics_clear (suc i) h =
      subst Clear (sym (panics_more i))
      (clear_join (panic_checks 0 (up_to g.b g.a i)) _ (panics_clear i (λ j l. h j (omega (arith, l)))) (h i (omega arith), tt))

  panics_first : (i : ℕ) → ((j : ℕ) → j < i → panics_at g j ≡ false) → panics_at g i ≡ true
      → first (panic_checks 0 (up_to g.b g.a (suc i))) ≡ at 9 i
  unfolding first
  panics_first i h e =
      ap first (panics_more i)
      ∙ first_after (panic_checks 0 (up_to g.b g.a i)) _ (panics_clear i h)
      ∙ rw e

  panics_stay : (i k r : ℕ) → first (panic_checks 0 (up_to g.b g.a i)) ≡ at 9 r → first (panic_checks 0 (up_to g.b g.a (i + k))) ≡ at 9 r
  panics_stay i zero r e = rw add-zero e
  panics_stay i (suc k) r e =
      rw add-suc
      (ap first (panics_more (i + k)) ∙ first_kept (panic_checks 0 (up_to g.b g.a (i + k))) _ 9 r (λ z. omega (arith, z)) (panics_stay i k r e))

  pub panic_first : (r : ℕ) → PanicOf g (Some r) → first (panic_checks 0 (tabled g)) ≡ told r (Some TooManyForEnd)
  unfolding tabled
  panic_first r p =
      let e : suc r + (g.blocks - suc r) ≡ g.blocks = omega (arith, p.0) in
      subst (λ (k : ℕ). first (panic_checks 0 (up_to g.b g.a k)) ≡ at 9 r) e (panics_stay (suc r) (g.blocks - suc r) r (panics_first r p.1 p.2))

  pub panic_none : PanicOf g None → Clear (panic_checks 0 (tabled g))
  unfolding tabled
  panic_none p = panics_clear g.blocks p
