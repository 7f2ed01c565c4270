-- What the code does step by step, over the tables. Proofs say that it is document 01's "Forward".
use Rattle.std.specs.Prelude.{ℕ, zero, suc, ◌+◌, ◌-◌, ◌≤◌, ◌<◌, ◌≡◌, Bool, false, not, cond, ◌&&◌, ◌||◌, List, [], ◌∷◌, ◌++◌, eqb, leb, length, get_or, set, take, drop, Option, None, Some, is_some}
use Rattle.std.specs.List.{list_any, between}
use Rattle.limits.specs.Limits.{blocks, arms}
use Rattle.rules.specs.Lists.{pick}
use Rattle.rules.specs.Graph.{is_entry, is_dead, has_parameters, is_named, is_addressed}
use Rattle.rules.specs.Forward.{goal}
use Rattle.records.specs.declared.Blocks.{Blocks}
use Rattle.records.specs.declared.Arms.{Arms}
use Rattle.records.specs.declared.Graph.{Graph}
use Rattle.records.specs.Tables.{tabled, ArmsWithin}

-- ---- blocks by the few numbers that decide

-- the rule "Ours", by end and number of arms
unfoldable pub ours_of : ℕ → ℕ → Bool
ours_of end n = (eqb n 1 && leb end 2) || (eqb n 2 && eqb end 2) || (leb 1 n && eqb end 3)

-- no mark that keeps a block
unfoldable pub plain : ℕ → Bool
plain marks = not (is_entry marks) && not (is_dead marks) && not (has_parameters marks) && not (is_named marks)

-- a way through, by its end, its marks, how many arms it has, and whether the first carries arguments
unfoldable pub passing : ℕ → ℕ → ℕ → ℕ → Bool
passing end marks count args = eqb end 0 && eqb count 1 && eqb args 0 && plain marks

-- ---- goals

-- the table has the goals of the first i listed blocks, and they are blocks
pub record Goals (t : Graph) (onward : List (Option ℕ)) (i : ℕ) : Type 0 where
  pub known : (j : ℕ) → j < i → get_or onward (get_or t.b.listed j 0) None ≡ goal (tabled t) (get_or t.b.listed j 0)
  pub small : (k m : ℕ) → get_or onward k None ≡ Some m → m < blocks

-- ---- moves

-- the arms with these targets
abbrev pub with_to : Arms → List ℕ → Arms
with_to a to = record a { to = to }

-- a table with these in the place of the part from f to e
abbrev pub put : ℕ → ℕ → List ℕ → List ℕ → List ℕ
put f e ys s = take f s ++ (ys ++ drop (e - f) (drop f s))

-- one of the arms with these targets goes to m
abbrev pub goes_to : List ℕ → ℕ → Bool
goes_to to m = list_any (λ x. eqb x m) to

-- where one of them goes on to, from `here`
unfoldable pub hop_of : List (Option ℕ) → List ℕ → ℕ → ℕ
hop_of onward to here = elim (get_or onward here None) [ None ↦ here | Some m ↦ cond (goes_to to m) here m ]

unfoldable pub differ : ℕ → ℕ → ℕ
differ x y = cond (eqb x y) 0 1

-- how many of these targets are others than those
unfoldable pub differing : List ℕ → List ℕ → ℕ
differing [] l = 0
differing (x ∷ k) [] = 0
differing (x ∷ k) (y ∷ l) = differ x y + differing k l

module _ (onward : List (Option ℕ)) where
  -- the targets of a block's arms when each has had its turn: `done` are those passed
  unfoldable pub hops_of : List ℕ → List ℕ → List ℕ
  hops_of done [] = []
  hops_of done (x ∷ l) = let y = hop_of onward (done ++ (x ∷ l)) x in y ∷ hops_of (done ++ (y ∷ [])) l

  -- if the block is ours
  unfoldable pub turn_of : ℕ → List ℕ → List ℕ
  turn_of end to = pick (ours_of end (length to)) (hops_of [] to) to

  -- all targets when the first i listed blocks have had their turn, and the moves so far
  module _ (b : Blocks) (a : Arms) where
    unfoldable pub turns_of : ℕ → List ℕ
    turns_of zero = a.to
    turns_of (suc i) =
        let k = get_or b.listed i 0 in
        let f = get_or a.first k 0 in
        let n = get_or a.count k 0 in
        put f (f + n) (turn_of (get_or b.ends k 0) (between f (f + n) (turns_of i))) (turns_of i)

    unfoldable pub moved_of : ℕ → ℕ
    moved_of zero = 0
    moved_of (suc i) =
        let k = get_or b.listed i 0 in
        let f = get_or a.first k 0 in
        let n = get_or a.count k 0 in
        let s = between f (f + n) (turns_of i) in
        moved_of i + differing s (turn_of (get_or b.ends k 0) s)

-- the graph when the first i listed blocks have had their turn
abbrev pub turned : List (Option ℕ) → Graph → ℕ → Graph
turned onward t i = record t { a = with_to t.a (turns_of onward t.b t.a i) }

-- ---- blocks that an arm goes to

-- in s' there are those in s, and these targets
abbrev pub Reached : List ℕ → List Bool → List Bool → Type 0
Reached to s s' = (x : ℕ) → get_or s' x false ≡ goes_to to x || get_or s x false

-- arms are in the tables, and those of listed blocks go to blocks
pub record Leads (t : Graph) : Type 0 where
  pub few : t.blocks ≤ blocks
  pub fits : ArmsWithin t.a arms
  pub leads : (i : ℕ) → i < t.blocks → (q : ℕ) → q < get_or t.a.count (get_or t.b.listed i 0) 0 → get_or t.a.to (get_or t.a.first (get_or t.b.listed i 0) 0 + q) 0 < blocks

-- ---- clearing

-- a block with a goal, no arm in and no address taken
unfoldable pub useless_of : Option ℕ → Bool → ℕ → Bool
useless_of goal reached marks = is_some goal && not reached && not (is_addressed marks)

unfoldable pub dead_of : ℕ → ℕ
dead_of marks = cond (is_dead marks) marks (marks + 4)

-- block k, if it is of no use
unfoldable pub clear_of : List (Option ℕ) → List Bool → ℕ → Graph → Graph
clear_of onward reached k t =
    pick (useless_of (get_or onward k None) (get_or reached k false) (get_or t.b.marks k 0))
    (record t {
      b = record t.b { marks = set t.b.marks k (dead_of (get_or t.b.marks k 0)); weight = set t.b.weight k 0 };
      a = record t.a { count = set t.a.count k 0 };
    })
    t

-- the first i listed blocks
unfoldable pub cleared : List (Option ℕ) → List Bool → Graph → ℕ → Graph
cleared onward reached t zero = t
cleared onward reached t (suc i) = clear_of onward reached (get_or t.b.listed i 0) (cleared onward reached t i)
