-- A look at a span, place by place. Assumes nothing.
use Prim.Native.Nat.{ℕ, ◌+◌, ◌≤◌, ◌<◌}
use native.Mathlib.Omega.{arith}
use mathlib.Core.Path.{◌≡◌, refl, sym, ap, ◌∙◌}
use mathlib.Core.Bool.{Bool, true, false, cond}
use mathlib.Core.Logic.{inl, inr, ⊎_elim}
use mathlib.Core.List.{List, [], ◌∷◌, ◌++◌, append-nil}
use Rattle.std.specs.Prelude.{filter}
use Rattle.std.proofs.lemmas.List.{take_more, take_more_set}
use Rattle.std.proofs.lemmas.List.Elements.{filter-append}
use lib.ListN.{length, get_or, take, drop, set}
use lib.Seq.{slice, get_or-set_other, drop-append-le, length-take-le}
use Rattle.scans.specs.Looks.{free, Sifted}

slice_more : (l : List ℕ) (a i : ℕ) → a ≤ i → i < length l → slice a (i + 1) l ≡ slice a i l ++ (get_or l i 0 ∷ [])
slice_more l a i h k = ap (drop a) (take_more l i 0 k) ∙ drop-append-le a (take i l) (get_or l i 0 ∷ []) (omega (arith, h, length-take-le i l (omega (arith, k))))

slice_put : (l : List ℕ) (a i v : ℕ) → a ≤ i → i < length l → slice a (i + 1) (set l i v) ≡ slice a i l ++ (v ∷ [])
slice_put l a i v h k = ap (drop a) (take_more_set l i v k) ∙ drop-append-le a (take i l) (v ∷ []) (omega (arith, h, length-take-le i l (omega (arith, k))))

module _ (seen : List ℕ) (from i : ℕ) (left₀ left : List ℕ) (kept : ℕ) (v : Sifted seen from i left₀ left kept) (lt : i < length left₀) (same : length left ≡ length left₀) where
  more : (t : Bool) → free seen (get_or left i 0) ≡ t → filter (free seen) (slice from (i + 1) left₀) ≡ filter (free seen) (slice from i left₀) ++ cond t (get_or left i 0 ∷ []) []
  more t e = rw (slice_more left₀ from i (omega (arith, v.low, v.high)) lt, sym (v.other i (inr (omega arith)))) (filter-append (free seen) (slice from i left₀) (get_or left i 0 ∷ []) ∙ rw e refl)

  -- a laid block is left out
  pub sifted_laid : free seen (get_or left i 0) ≡ false → Sifted seen from (i + 1) left₀ left kept
  sifted_laid f = record {
    low = v.low;
    high = omega (arith, v.high);
    kept = v.kept ∙ sym (more false f ∙ append-nil (filter (free seen) (slice from i left₀)));
    other = λ x o. v.other x (⊎_elim (λ a. inl a) (λ a. inr (omega (arith, a))) o);
  }

  -- another is put behind those that are left
  pub sifted_left : free seen (get_or left i 0) ≡ true → Sifted seen from (i + 1) left₀ (set left kept (get_or left i 0)) (kept + 1)
  sifted_left f = record {
    low = omega (arith, v.low);
    high = omega (arith, v.high);
    kept = slice_put left from kept (get_or left i 0) v.low (omega (arith, v.high)) ∙ ap (λ (l : List ℕ). l ++ (get_or left i 0 ∷ [])) v.kept ∙ sym (more true f);
    other = λ x o. get_or-set_other left kept x (get_or left i 0) 0 (λ q. ⊎_elim (λ a. omega (arith, a, q, v.low)) (λ a. omega (arith, a, q, v.high)) o) ∙ v.other x (⊎_elim (λ a. inl a) (λ a. inr (omega (arith, a))) o);
  }
