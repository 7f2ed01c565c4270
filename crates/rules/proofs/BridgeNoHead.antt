-- A bridge is never a head: it is entered from before it alone. Assumes nothing.
use Prim.Native.Nat.{ℕ, zero, suc, ◌≤◌, ◌<◌}
use native.Mathlib.Omega.{arith}
use mathlib.Core.Path.{◌≡◌, refl, sym, ap, ◌∙◌, subst}
use mathlib.Core.Bool.{Bool, true, false, cond, true≢false}
use mathlib.Core.Logic.{inl, inr}
use mathlib.Core.List.{List, [], ◌∷◌, ◌++◌, map}
use lib.Dec.{T, eqb}
use lib.ListN.{length, get_or, drop}
use Rattle.rules.specs.Lists.{keep}
use Rattle.rules.specs.Graph.{Block, Graph, no_block, block_at, targets}
use Rattle.rules.specs.Split.{partition}
use Rattle.rules.specs.Exits.{Place, laid_graph}
use Rattle.rules.specs.Heads.{head_at}
use Rattle.rules.specs.Laid.{ordered, readied, layout}
use Rattle.rules.proofs.Membership.{In, In-left, In-right}
use Rattle.rules.proofs.Counting.{tally_append, count, In→count}
use Rattle.rules.proofs.Written.{bridges_in}
use Rattle.rules.proofs.AcceptedGraph.{Sound}
use Rattle.rules.proofs.HeadsExact.{heads_exact}
use Rattle.rules.proofs.ArmsKept.{Kept, ended, alone, spanned, arms_kept}
use Rattle.rules.proofs.BridgeAfter.{targets_in, span_arm, bridge_few, laid_whole}

-- no place of a list
abbrev pub no_place : Place
no_place = record { block = no_block; is_bridge = false; exit = 0 }

-- from a bridge's place on, nothing goes to it
kept_behind : (g : Graph) (o : List ℕ) (l : List Place) → Kept g o l → (i : ℕ) → (get_or l i no_place).is_bridge ≡ true
    → count (get_or l i no_place).block.number (targets_in l) ≤ 1 → count (get_or l i no_place).block.number (targets_in (drop i l)) ≡ 0
unfolding targets_in count
kept_behind g o l ended i b h = absurd (true≢false (sym b))
kept_behind g o l (alone m r p t a k) zero b h = absurd (true≢false (sym b ∙ a.block))
kept_behind g o l (alone m r p t a k) (suc i) b h =
    kept_behind g r t k i b (omega (arith, h, tally_append (λ (x : ℕ). eqb x (get_or t i no_place).block.number) (targets p.block) (targets_in t)))
kept_behind g o l (spanned m r p q t s k) zero b h = absurd (true≢false (sym b ∙ s.block))
kept_behind g o l (spanned m r p q t s k) (suc zero) b h =
    omega (
      arith,
      h,
      tally_append (λ (x : ℕ). eqb x q.block.number) (targets p.block) (targets q.block ++ targets_in t),
      In→count q.block.number (targets p.block) (span_arm (block_at g m) p q s),
    )
kept_behind g o l (spanned m r p q t s k) (suc (suc i)) b h =
    let n = (get_or t i no_place).block.number in
    kept_behind g r t k i b
    (omega (
      arith,
      h,
      tally_append (λ (x : ℕ). eqb x n) (targets p.block) (targets q.block ++ targets_in t),
      tally_append (λ (x : ℕ). eqb x n) (targets q.block) (targets_in t),
    ))

-- ---- places and blocks
drop_blocks : (l : List Place) (i : ℕ) → drop i (laid_graph l) ≡ laid_graph (drop i l)
unfolding laid_graph
drop_blocks [] zero = refl
drop_blocks [] (suc i) = refl
drop_blocks (p ∷ l) zero = refl
drop_blocks (p ∷ l) (suc i) = drop_blocks l i

get_block : (l : List Place) (i : ℕ) → get_or (laid_graph l) i no_block ≡ (get_or l i no_place).block
unfolding laid_graph
get_block [] i = refl
get_block (p ∷ l) zero = refl
get_block (p ∷ l) (suc i) = get_block l i

target_in : (l : List Place) (b : Block) (n : ℕ) → In b (laid_graph l) → In n (targets b) → In n (targets_in l)
unfolding laid_graph targets_in
target_in [] b n i j = absurd i
target_in (p ∷ l) b n (inl e) j = In-left n (targets p.block) (targets_in l) (subst (λ (x : Block). In n (targets x)) e j)
target_in (p ∷ l) b n (inr i) j = In-right n (targets p.block) (targets_in l) (target_in l b n i j)

bridge_in : (l : List Place) (i : ℕ) → (get_or l i no_place).is_bridge ≡ true → In (get_or l i no_place).block.number (bridges_in l)
unfolding bridges_in
bridge_in [] i b = absurd (true≢false (sym b))
bridge_in (p ∷ l) zero b = subst (λ (c : Bool). In p.block.number (map (λ (q : Place). q.block.number) (cond c (p ∷ keep (λ (q : Place). q.is_bridge) l) (keep (λ (q : Place). q.is_bridge) l)))) (sym b) (inl refl)
bridge_in (p ∷ l) (suc i) b = go p.is_bridge (bridge_in l i b)
  where
    n : ℕ
    n = (get_or l i no_place).block.number

    go : (c : Bool) → In n (bridges_in l) → In n (map (λ (q : Place). q.block.number) (cond c (p ∷ keep (λ (q : Place). q.is_bridge) l) (keep (λ (q : Place). q.is_bridge) l)))
    go true j = inr j
    go false j = j

-- THE THEOREM
pub bridge_no_head : (g : Graph) → Sound g → (f r : Bool) (i : ℕ) → i < length (laid_graph (layout f r g)) → (get_or (layout f r g) i no_place).is_bridge ≡ true
    → T (head_at (laid_graph (layout f r g)) i) → ⊥
bridge_no_head g d f r i h b t =
    let l = layout f r g in
    let n = (get_or l i no_place).block.number in
    let k = (heads_exact (laid_graph l) (laid_whole g d f r) i h).0 t in
    let same : (get_or (laid_graph l) i no_block).number ≡ n = ap (λ (x : Block). x.number) (get_block l i) in
    let there : In n (targets_in (drop i l)) =
    target_in (drop i l) k.tail n (subst (λ (x : Graph). In k.tail x) (drop_blocks l i) k.place) (subst (λ (x : ℕ). In x (targets k.tail)) same k.arm) in
    let is : In n (bridges_in l) = bridge_in l i b in
    let most : count n (targets_in l) ≤ 1 = bridge_few g d f r n is in
    omega (arith, In→count n (targets_in (drop i l)) there, kept_behind (readied f g) (partition (readied f g) (ordered r (readied f g))) l (arms_kept f r g) i b most)
