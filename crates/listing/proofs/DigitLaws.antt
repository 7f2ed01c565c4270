-- The digits of a number, the last first; how many there are. Assumes nothing.
use Prim.Native.Nat.{ℕ, zero, suc, ◌+◌, ◌-◌, ◌*◌, ◌/◌, ◌%◌, ◌≤◌, ◌<◌}
use native.Mathlib.Numerals.{add-one}
use native.Mathlib.Omega.{arith}
use mathlib.Core.Path.{◌≡◌, refl, sym, ap, ◌∙◌}
use mathlib.Core.Bool.{Bool, cond}
use mathlib.Core.List.{List, [], ◌∷◌, ◌++◌, append_assoc, append-nil}
use Rattle.std.proofs.Common.{length-drop, take_all}
use lib.ListN.{length, set, take, drop, replicate, length-append, length-set}
use lib.Seq.{set_split, drop_at, length-take-le}
use borrow.Author.Tests.{lt-ltb, le-ltb}
use Rattle.lists.proofs.Choices.{split_lt}
use Rattle.rules.specs.Listing.{digits, decimal}

-- the numbers of at most k digits are below this
unfoldable pub tens : ℕ → ℕ
tens zero = 1
tens (suc k) = 10 * tens k

digits_one : (k n : ℕ) → n < 10 → digits (suc k) n ≡ (48 + n) ∷ []
unfolding digits
digits_one k n h = ap (λ (b : Bool). cond b ((48 + n) ∷ []) (digits k (n / 10) ++ ((48 + n % 10) ∷ []))) (lt-ltb n 10 h)

digits_more : (k n : ℕ) → 10 ≤ n → digits (suc k) n ≡ digits k (n / 10) ++ ((48 + n % 10) ∷ [])
unfolding digits
digits_more k n h = ap (λ (b : Bool). cond b ((48 + n) ∷ []) (digits k (n / 10) ++ ((48 + n % 10) ∷ []))) (le-ltb n 10 h)

digits_some : (k n : ℕ) → 0 < length (digits (suc k) n)
digits_some k n =
    split_lt n 10 (λ l. omega (arith, ap length (digits_one k n l)))
    (λ l. omega (arith, ap length (digits_more k n l), length-append (digits k (n / 10)) ((48 + n % 10) ∷ [])))

-- more room for digits than the number needs changes nothing
digits_more_room : (k n : ℕ) → n < tens (suc k) → digits (suc (suc k)) n ≡ digits (suc k) n
unfolding tens
digits_more_room zero n h = digits_one 1 n (omega (arith, h)) ∙ sym (digits_one 0 n (omega (arith, h)))
digits_more_room (suc k) n h =
    split_lt n 10 (λ l. digits_one (suc (suc k)) n l ∙ sym (digits_one (suc k) n l))
    (λ l. digits_more (suc (suc k)) n l ∙ ap (λ (s : List ℕ). s ++ ((48 + n % 10) ∷ [])) (digits_more_room k (n / 10) (omega (arith, h))) ∙ sym (digits_more (suc k) n l))

-- ---- the digits of a number that fits
pub decimal_one : (n : ℕ) → n < 10 → decimal n ≡ (48 + n) ∷ []
unfolding decimal
decimal_one n h = digits_one 19 n h

pub decimal_more : (n : ℕ) → n < tens 20 → 10 ≤ n → decimal n ≡ decimal (n / 10) ++ ((48 + n % 10) ∷ [])
unfolding decimal tens
decimal_more n h l = digits_more 19 n l ∙ ap (λ (s : List ℕ). s ++ ((48 + n % 10) ∷ [])) (sym (digits_more_room 18 (n / 10) (omega (arith, h))))

decimal_some : (n : ℕ) → 0 < length (decimal n)
unfolding decimal
decimal_some n = digits_some 19 n

-- ---- how many
digits_most : (f k n : ℕ) → n < tens (suc k) → length (digits f n) ≤ suc k
unfolding digits tens
digits_most zero k n h = omega arith
digits_most (suc f) zero n h = omega (arith, ap length (digits_one f n (omega (arith, h))))
digits_most (suc f) (suc k) n h =
    split_lt n 10 (λ l. omega (arith, ap length (digits_one f n l)))
    (λ l. omega (arith, ap length (digits_more f n l), length-append (digits f (n / 10)) ((48 + n % 10) ∷ []), digits_most f k (n / 10) (omega (arith, h))))

digits_fit : (k n : ℕ) → length (digits k n) ≤ k
unfolding digits
digits_fit zero n = omega arith
digits_fit (suc k) n =
    split_lt n 10 (λ l. omega (arith, ap length (digits_one k n l)))
    (λ l. omega (arith, ap length (digits_more k n l), length-append (digits k (n / 10)) ((48 + n % 10) ∷ []), digits_fit k (n / 10)))

pub decimal_fits : (n : ℕ) → length (decimal n) ≤ 20
unfolding decimal
decimal_fits n = digits_fit 20 n

-- a number of k digits, counted from 1
pub width_most : (k n : ℕ) → n < tens (suc k) → length (decimal n) ≤ suc k
unfolding decimal
width_most k n h = digits_most 20 k n h

-- ---- digits put from the last on: those behind place `at` are put, and the rest has the others
pub record Digits (n : ℕ) (digits : List ℕ) (at rest : ℕ) : Type 0 where
  pub sized : length digits ≡ 20
  pub inside : at < 20
  pub whole : decimal rest ++ drop (at + 1) digits ≡ decimal n

pub digits_none : (n : ℕ) → Digits n (replicate 20 0) 19 n
digits_none n = record { sized = refl; inside = omega arith; whole = append-nil (decimal n) }

module _ (n : ℕ) (d : List ℕ) (at rest : ℕ) (k : Digits n d at rest) where
  -- the others have room
  room : length (decimal rest) ≤ at + 1
  room = omega (arith, ap length k.whole, length-append (decimal rest) (drop (at + 1) d), length-drop (at + 1) d, k.sized, k.inside, decimal_fits n)

  -- the next digit, with those behind it
  next : (v : ℕ) → drop at (set d at v) ≡ v ∷ drop (at + 1) d
  next v =
      rw add-one
      (ap (drop at) (set_split d at v (omega (arith, k.sized, k.inside)))
      ∙ drop_at (take at d) (v ∷ drop (suc at) d) at (length-take-le at d (omega (arith, k.sized, k.inside))))

  module _ (h : rest < tens 20) (l : 10 ≤ rest) where
    pub digits_room : 0 < at
    digits_room = omega (arith, room, ap length (decimal_more rest h l), length-append (decimal (rest / 10)) ((48 + rest % 10) ∷ []), decimal_some (rest / 10))

    pub digits_next : Digits n (set d at (48 + rest % 10)) (at - 1) (rest / 10)
    digits_next =
        let e : at - 1 + 1 ≡ at = omega (arith, digits_room) in
        record {
          sized = length-set d at (48 + rest % 10) ∙ k.sized;
          inside = omega (arith, k.inside);
          whole =
              rw e
              (ap (λ (s : List ℕ). decimal (rest / 10) ++ s) (next (48 + rest % 10))
              ∙ sym (append_assoc (decimal (rest / 10)) ((48 + rest % 10) ∷ []) (drop (at + 1) d))
              ∙ ap (λ (s : List ℕ). s ++ drop (at + 1) d) (sym (decimal_more rest h l)) ∙ k.whole);
        }

  pub digits_last : rest < 10 → take (20 - at) (drop at (set d at (48 + rest))) ≡ decimal n
  digits_last l =
      let long : length (drop at (set d at (48 + rest))) ≤ 20 - at = omega (arith, length-drop at (set d at (48 + rest)), length-set d at (48 + rest), k.sized) in
      take_all (20 - at) (drop at (set d at (48 + rest))) long ∙ next (48 + rest) ∙ ap (λ (s : List ℕ). s ++ drop (at + 1) d) (sym (decimal_one rest l)) ∙ k.whole
