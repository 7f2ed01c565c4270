-- Parts of a list, and what a part that is lent and comes back leaves. Assumes nothing.
use Prim.Native.Nat.{ℕ, ◌+◌, ◌-◌, ◌≤◌}
use native.Mathlib.Omega.{arith}
use mathlib.Core.Path.{◌≡◌, sym, ap, ◌∙◌}
use mathlib.Core.List.{List, ◌++◌, append_assoc, append-nil}
use lib.ListN.{length, take, drop, length-append, length-take, length-drop, drop_of_length-le}
use Rattle.lists.specs.Behind.{behind}
use lib.Seq.{take_all, take_at, drop_at, drop-drop}

pub part_is : {A : Type 0} (s : List A) (a k : ℕ) → take (a + k - a) (drop a s) ≡ take k (drop a s)
part_is s a k =
    let e : a + k - a ≡ k = omega arith in
    ap (λ (n : ℕ). take n (drop a s)) e

pub part_length : {A : Type 0} (s : List A) (a k : ℕ) → a + k ≤ length s → length (take (a + k - a) (drop a s)) ≡ k
part_length s a k h = simp (length-take, length-drop) (omega arith)

pub tail_is : {A : Type 0} (s : List A) (a : ℕ) → take (length s - a) (drop a s) ≡ drop a s
tail_is s a = take_all (length s - a) (drop a s) (simp length-drop (omega arith))

-- a list that is filled from its front: `front` is written, d was there before
module _ {A : Type 0} (front ys d o : List A) (a k : ℕ) (at : length front ≡ a) (is : o ≡ front ++ drop a d) where
  pub fill_more : take a o ++ (ys ++ drop (a + k - a) (drop a o)) ≡ (front ++ ys) ++ drop (a + k) d
  fill_more =
      let e : a + k - a ≡ k = omega arith in
      rw (is, e, take_at front (drop a d) a at, drop_at front (drop a d) a at)
      (sym (append_assoc front ys (drop k (drop a d))) ∙ ap (λ (l : List A). (front ++ ys) ++ l) (drop-drop k a d))

pub fill_length : {A : Type 0} (front d o : List A) (a : ℕ) → length front ≡ a → a ≤ length d → o ≡ front ++ drop a d → length o ≡ length d
fill_length front d o a at h is = rw is (simp (length-append, length-drop) (omega arith))

pub fill_all : {A : Type 0} (front d o : List A) (a : ℕ) → length d ≡ a → o ≡ front ++ drop a d → o ≡ front
fill_all {A} front d o a h is = is ∙ ap (λ (l : List A). front ++ l) (drop_of_length-le d {i = a} (omega arith)) ∙ append-nil front

-- what stands behind a front that was just written
pub behind_front : (front ys d : List ℕ) (a : ℕ) → length front ≡ a → behind a ys (front ++ drop a d) ≡ (front ++ ys) ++ drop (length (front ++ ys)) d
unfolding behind
behind_front front ys d a at =
    let e : a + length ys ≡ length (front ++ ys) = rw length-append (ap (λ (n : ℕ). n + length ys) (sym at)) in
    rw (take_at front (drop a d) a at)
    (ap (λ (l : List ℕ). (front ++ ys) ++ l)
    (sym (drop-drop (length ys) a (front ++ drop a d)) ∙ ap (drop (length ys)) (drop_at front (drop a d) a at) ∙ drop-drop (length ys) a d ∙ ap (λ (n : ℕ). drop n d) e))
