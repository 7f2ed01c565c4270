-- A block is reached by the table exactly when an arm goes to it. Assumes nothing.
use Rattle.std.proofs.Common.{ℕ, ◌+◌, ◌≤◌, ◌≡◌, refl, ap, ◌∙◌, Bool, true, false, ◌||◌, List, [], ◌∷◌, ◌++◌, eqb, length, get_or, add-one}
use Rattle.std.specs.List.{between}
use Rattle.rules.specs.Lists.{any}
use Rattle.rules.specs.Graph as graph
use Rattle.rules.specs.Forward.{entered}
use Rattle.records.specs.declared.Blocks.{Blocks}
use Rattle.records.specs.declared.Arms.{Arms}
use Rattle.records.specs.Tables.{leaves, block_at, up_to}
use Rattle.forwarding.specs.Steps.{goes_to}
use Rattle.forwarding.proofs.StepLaws.{same_get}
use Rattle.forwarding.proofs.ArmMoves.{any_to, arms_between}

any_append : {A : Type 0} (p : A → Bool) (s t : List A) → any p (s ++ t) ≡ any p s || any p t
unfolding any
any_append p [] t = refl
any_append p (x ∷ s) t = ap (λ (y : Bool). p x || y) (any_append p s t) ∙ go (p x) (any p s) (any p t)
  where
    go : (x y z : Bool) → x || (y || z) ≡ (x || y) || z
    go true y z = refl
    go false y z = refl

pub entered_none : (b : Blocks) (a : Arms) (x : ℕ) → entered (up_to b a 0) x ≡ false
unfolding entered up_to any
entered_none b a x = refl

turn : (x y : Bool) → x || (y || false) ≡ y || x
turn true true = refl
turn true false = refl
turn false true = refl
turn false false = refl

pub entered_more : (b : Blocks) (a : Arms) (i x : ℕ) → get_or a.first (get_or b.listed i 0) 0 + get_or a.count (get_or b.listed i 0) 0 ≤ length a.to
    → entered (up_to b a (i + 1)) x
    ≡ goes_to (between (get_or a.first (get_or b.listed i 0) 0) (get_or a.first (get_or b.listed i 0) 0 + get_or a.count (get_or b.listed i 0) 0) a.to) x || entered (up_to b a i) x
unfolding entered up_to block_at leaves any
entered_more b a i x h =
    let k = get_or b.listed i 0 in
    let f = get_or a.first k 0 in
    let n = get_or a.count k 0 in
    let goes = λ (y : graph.Block). any (λ (z : graph.Arm). eqb z.to x) y.arms in
    rw add-one
    (any_append goes (up_to b a i) (block_at b a k ∷ [])
    ∙ turn (entered (up_to b a i) x) (any (λ (z : graph.Arm). eqb z.to x) (leaves a k))
    ∙ ap (λ (t : Bool). t || entered (up_to b a i) x) (ap (any (λ (z : graph.Arm). eqb z.to x)) (arms_between a n f h) ∙ any_to a.args a.weight x (between f (f + n) a.to) f))

-- ---- what the loop steps by
pub ruleset entered_steps = (same_get, entered_none, entered_more)
