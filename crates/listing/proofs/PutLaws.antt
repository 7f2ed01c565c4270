-- One text put after another, and at the front. Assumes nothing.
use Prim.Native.Nat.{ℕ, ◌+◌, ◌≤◌}
use native.Mathlib.Nat.{add-zero}
use native.Mathlib.Omega.{arith}
use mathlib.Core.Path.{◌≡◌, refl, sym, ap, ap₂, ◌∙◌, subst}
use mathlib.Core.List.{List, [], ◌++◌, append_assoc, append-nil}
use lib.ListN.{length, take, drop, length-append, take-append-drop}
use lib.Seq.{length-take-le}
use Rattle.lists.specs.Behind.{behind}
use Rattle.lists.proofs.Parts.{behind_front}
use Rattle.listing.specs.declared.text.Text.{Text}
use Rattle.listing.specs.Put.{Put}
use Rattle.listing.specs.Lines.{Printed}

-- no text
pub put_none : (d : Text) → d.len ≤ length d.out.now → Put [] d d
unfolding behind
put_none d h = record { same = refl; long = refl; bytes = simp (append-nil, add-zero) (sym (take-append-drop d.len d.out.now)); ends = omega arith }

-- a text, and another where it ends
pub put_then : {s t : List ℕ} {d o p : Text} → d.len ≤ length d.out.now → Put s d o → Put t o p → Put (s ++ t) d p
unfolding behind
put_then {s} {t} {d} {o} {p} h x y =
    let b = d.out.now in
    let front : length (take d.len b ++ s) ≡ o.len = omega (arith, length-append (take d.len b) s, length-take-le d.len b h, x.ends) in
    let before : o.out.now ≡ (take d.len b ++ s) ++ drop o.len b = x.bytes ∙ ap (λ (k : ℕ). (take d.len b ++ s) ++ drop k b) (sym x.ends) in
    let whole : length ((take d.len b ++ s) ++ t) ≡ d.len + length (s ++ t) = omega (arith, length-append (take d.len b ++ s) t, length-append s t, front, x.ends) in
    record {
      same = y.same ∙ x.same;
      long = y.long ∙ x.long;
      bytes =
          y.bytes ∙ ap (behind o.len t) before ∙ behind_front (take d.len b ++ s) t b o.len front
          ∙ ap (λ (k : ℕ). ((take d.len b ++ s) ++ t) ++ drop k b) whole
          ∙ ap (λ (l : List ℕ). l ++ drop (d.len + length (s ++ t)) b) (append_assoc (take d.len b) s t);
      ends = omega (arith, x.ends, y.ends, length-append s t);
    }

-- at the front of some bytes
pub put_front : {text was now : List ℕ} {d o : Text} → Put text d o → was ≡ d.out.now → d.len ≡ 0 → now ≡ o.out.now → Printed text was now o.len
unfolding behind
put_front {text} {was} {now} {d} {o} p b z e = record {
  bytes = e ∙ p.bytes ∙ ap₂ (λ (k : ℕ) (l : List ℕ). behind k text l) z (sym b) ∙ ap (λ (k : ℕ). text ++ drop k was) (zero_plus (length text));
  ends = omega (arith, p.ends, z);
}
  where
    zero_plus : (k : ℕ) → 0 + k ≡ k
    zero_plus k = omega arith

-- the same text, said otherwise
pub put_same : {s t : List ℕ} {d o : Text} → s ≡ t → Put s d o → Put t d o
put_same {s} {t} {d} {o} e p = subst (λ (x : List ℕ). Put x d o) e p
