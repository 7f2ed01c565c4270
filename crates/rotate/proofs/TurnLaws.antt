-- A part turned round whole, and then each of its two sides by itself: the sides have changed places. Assumes nothing.
use Rattle.std.proofs.Common.{ℕ, ◌-◌, ◌≤◌, ◌≡◌, List, ◌++◌, length, take, drop, reverse, sym, ap, ◌∙◌, arith, length-append}
use mathlib.Core.Path.{ap₂}
use mathlib.Core.List.{append-nil}
use borrow.Rule.Slice.PartMut.{put_mid}
use Rattle.std.proofs.lemmas.List.{reverse-append, reverse-reverse, length-reverse, take-append-drop, take_all, drop_all}
use lib.ListN.{length-drop}
use lib.Seq.{take-append_seam, drop-append_seam}

module _ (p : List ℕ) (k : ℕ) (h : k ≤ length p) where
  abbrev front : List ℕ
  front = take k p

  abbrev rest : List ℕ
  rest = drop k p

  module _ (r a b : List ℕ) (whole : r ≡ reverse p) where
    abbrev n : ℕ
    n = length r - k

    abbrev xs : List ℕ
    xs = a ++ drop n r

    abbrev m : ℕ
    m = length xs - n

    around : r ≡ reverse rest ++ reverse front
    around = whole ∙ ap reverse (sym (take-append-drop k p)) ∙ reverse-append front rest

    long : length rest ≡ n
    long = omega (arith, length-drop k p, ap length whole, length-reverse p)

    back_long : length (reverse rest) ≡ n
    back_long = length-reverse rest ∙ long

    before : take n r ≡ reverse rest
    before = ap (take n) around ∙ ap (λ (i : ℕ). take i (reverse rest ++ reverse front)) (sym back_long) ∙ take-append_seam (reverse rest) (reverse front)

    behind : drop n r ≡ reverse front
    behind = ap (drop n) around ∙ ap (λ (i : ℕ). drop i (reverse rest ++ reverse front)) (sym back_long) ∙ drop-append_seam (reverse rest) (reverse front)

    module _ (first : a ≡ reverse (take n r)) (second : b ≡ reverse (take m (drop n xs))) where
      a_is : a ≡ rest
      a_is = first ∙ ap reverse before ∙ reverse-reverse rest

      xs_are : xs ≡ rest ++ reverse front
      xs_are = ap₂ (λ (x y : List ℕ). x ++ y) a_is behind

      left : take n xs ≡ rest
      left = ap (take n) xs_are ∙ ap (λ (i : ℕ). take i (rest ++ reverse front)) (sym long) ∙ take-append_seam rest (reverse front)

      right : drop n xs ≡ reverse front
      right = ap (drop n) xs_are ∙ ap (λ (i : ℕ). drop i (rest ++ reverse front)) (sym long) ∙ drop-append_seam rest (reverse front)

      enough : length (reverse front) ≤ m
      enough = omega (arith, ap length xs_are, length-append rest (reverse front), long)

      b_is : b ≡ front
      b_is = second ∙ ap (λ (l : List ℕ). reverse (take m l)) right ∙ ap reverse (take_all m (reverse front) enough) ∙ reverse-reverse front

      -- THE LAW
      pub sides_turned : put_mid n m xs b ≡ rest ++ front
      sides_turned =
          ap₂ (λ (x y : List ℕ). x ++ y) left (ap₂ (λ (x y : List ℕ). x ++ drop m y) b_is right ∙ ap (λ (l : List ℕ). front ++ l) (drop_all m (reverse front) enough) ∙ append-nil front)
