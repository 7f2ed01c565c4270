-- The bytes of a layout are sixteen for each place and each arm of the laid graph. Assumes nothing.
use Prim.Native.Nat.{ℕ, suc, ◌+◌, ◌*◌, ◌%◌}
use native.Mathlib.Omega.{arith}
use mathlib.Core.Path.{◌≡◌, refl, ◌∙◌}
use mathlib.Core.Bool.{cond}
use mathlib.Core.List.{List, [], ◌∷◌}
use lib.Dec.{eqb}
use lib.ListN.{length, length-append}
use Rattle.limits.specs.Limits.{size, marks_below}
use Rattle.rules.specs.Graph.{Arm, Graph}
use Rattle.rules.specs.Records.{fields, arm_bytes, leaving_bytes, arms_bytes}
use Rattle.rules.specs.Within.{arm_total}
use Rattle.rules.specs.Exits.{Place, laid_graph}
use Rattle.rules.specs.Heads.{head_at}
use Rattle.rules.specs.Laid.{place_bytes, places_bytes, laid_bytes}

fields_length : (k b1 b2 b3 b4 b5 weight : ℕ) → length (fields k b1 b2 b3 b4 b5 weight) ≡ size
unfolding fields
fields_length k b1 b2 b3 b4 b5 weight = refl

leaving_length : (from : ℕ) (l : List Arm) → length (leaving_bytes from l) ≡ size * length l
unfolding leaving_bytes arm_bytes
leaving_length from [] = refl
leaving_length from (a ∷ l) =
    length-append (arm_bytes from a) (leaving_bytes from l)
    ∙ omega (arith, fields_length 2 (from % 256) (a.to % 256) a.args 0 0 a.weight, leaving_length from l)

arms_length : (g : Graph) → length (arms_bytes g) ≡ size * arm_total g
unfolding arms_bytes arm_total
arms_length [] = refl
arms_length (b ∷ g) = length-append (leaving_bytes b.number b.arms) (arms_bytes g) ∙ omega (arith, leaving_length b.number b.arms, arms_length g)

places_length : (g : Graph) (split i : ℕ) (l : List Place) → length (places_bytes g split i l) ≡ size * length l
unfolding places_bytes place_bytes
places_length g split i [] = refl
places_length g split i (p ∷ l) =
    length-append (place_bytes g split i p) (places_bytes g split (suc i) l)
    ∙ omega (
      arith,
      fields_length (cond p.is_bridge 3 1) (p.block.number % 256) (p.block.marks + cond (head_at g i) marks_below 0) p.block.end (cond (eqb i split) 1 0) p.exit p.block.weight,
      places_length g split (suc i) l,
    )

pub laid_length : (split : ℕ) (l : List Place) → length (laid_bytes split l) ≡ size * (length l + arm_total (laid_graph l))
unfolding laid_bytes
laid_length split l =
    length-append (places_bytes (laid_graph l) split 0 l) (arms_bytes (laid_graph l)) ∙ omega (arith, places_length (laid_graph l) split 0 l, arms_length (laid_graph l))
