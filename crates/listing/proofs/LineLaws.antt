-- The parts of a line, and how long they are. Assumes nothing.
use Prim.Native.Nat.{ℕ, ◌+◌, ◌≤◌, ◌<◌}
use native.Mathlib.Omega.{arith}
use mathlib.Core.Path.{◌≡◌, refl, ap}
use mathlib.Core.Bool.{Bool}
use mathlib.Core.List.{[], ◌∷◌, ◌++◌, append_assoc}
use lib.Dec.{leb}
use lib.ListN.{length, length-append}
use borrow.Author.Tests.{ne_eqb}
use Rattle.std.specs.Prelude.{Option, None, Some}
use Rattle.limits.specs.Limits.{numbers, line_room, last_room, no_split}
use Rattle.rules.specs.Graph.{is_cold}
use Rattle.rules.specs.Listing.{space, newline, dash, line, decimal, letter, split_word, none_word, refused_word, at_word, split_line, refusal_line}
use Rattle.exits.specs.Lays.{split_number}
use Rattle.listing.specs.Lines.{words, front_of, back_of, last_line}
use Rattle.listing.proofs.DigitLaws.{tens, width_most, decimal_fits}

-- ---- the front and the back of a line
pub front_is : (place number weight : ℕ) →
    (((decimal place ++ (space ∷ [])) ++ (letter (leb numbers number) 43 66 ++ (space ∷ []))) ++ (decimal number ++ (space ∷ []))) ++ (decimal weight ++ (space ∷ [])) ≡ front_of place number weight
unfolding front_of words letter
front_is place number weight = simp append_assoc

pub back_is : (marks exit : ℕ) (head loops : Bool) →
    (((letter (is_cold marks) 67 87 ++ (space ∷ [])) ++ (letter head 72 dash ++ (space ∷ []))) ++ (letter loops 76 dash ++ (space ∷ []))) ++ (decimal exit ++ (newline ∷ [])) ≡ back_of marks head loops exit
unfolding back_of line letter
back_is marks exit head loops = refl

pub front_long : (place number weight : ℕ) → length (front_of place number weight) ≡ length (decimal place) + length (decimal number) + length (decimal weight) + 5
unfolding front_of words letter
front_long place number weight = simp length-append (omega arith)

pub back_long : (marks exit : ℕ) (head loops : Bool) → length (back_of marks head loops exit) ≡ length (decimal exit) + 7
unfolding back_of line letter
back_long marks exit head loops = simp length-append (omega arith)

-- they have room in a line
abbrev pub front_room : ℕ
front_room = 31

pub front_fits : (place number weight : ℕ) → place < 1000 → number < 1000 → length (front_of place number weight) ≤ front_room
unfolding tens
front_fits place number weight p n = omega (arith, front_long place number weight, width_most 2 place p, width_most 2 number n, decimal_fits weight)

pub back_fits : (marks exit : ℕ) (head loops : Bool) → exit < 1000 → length (back_of marks head loops exit) + front_room ≤ line_room
unfolding tens
back_fits marks exit head loops e = omega (arith, back_long marks exit head loops, width_most 2 exit e)

pub ruleset parts_fit = (front_fits, back_fits)

-- ---- one word of it
pub number_long : (n b : ℕ) → length (decimal n ++ (b ∷ [])) ≡ length (decimal n) + 1
number_long n b = length-append (decimal n) (b ∷ [])

pub letter_long : (c : Bool) (x y : ℕ) → length (letter c x y ++ (space ∷ [])) ≡ 2
unfolding letter
letter_long c x y = refl

-- how long what a line is put of is
pub ruleset lengths = (front_long, back_long, number_long, letter_long)

-- ---- the last line
pub last_none : (split_word ++ (space ∷ [])) ++ (none_word ++ (newline ∷ [])) ≡ last_line None
unfolding last_line line
last_none = refl

pub last_some : (split : ℕ) → (split_word ++ (space ∷ [])) ++ (decimal split ++ (newline ∷ [])) ≡ last_line (Some split)
unfolding last_line line
last_some split = refl

pub last_fits : (split : Option ℕ) → length (last_line split) ≤ last_room
last_fits None = omega (arith, ap length last_none)
last_fits (Some split) = omega (arith, ap length (last_some split), length-append {A = ℕ}, decimal_fits split)

-- the rules number a split: it is one of these lines where there is room for blocks
pub last_line_is : (split : Option ℕ) → ((s : ℕ) → split ≡ Some s → s < no_split) → last_line split ≡ split_line (split_number split)
unfolding last_line split_line split_number
last_line_is None h = refl
last_line_is (Some split) h = rw (ne_eqb split no_split (λ e. omega (arith, h split refl, e))) refl

-- ---- a refusal
-- how long what it is put of is
pub ruleset words_fit = (number_long, decimal_fits)

pub refusal_is : (number place : ℕ) →
    (((refused_word ++ (space ∷ [])) ++ (decimal number ++ (space ∷ []))) ++ (at_word ++ (space ∷ []))) ++ (decimal place ++ (newline ∷ [])) ≡ refusal_line (record { number = number; place = place })
unfolding refusal_line line
refusal_is number place = simp append_assoc
