-- What is laid block by block is what the rule lays part by part. Assumes nothing.
use Rattle.std.proofs.Common.{ℕ, zero, suc, ◌+◌, ◌-◌, ◌≤◌, ◌<◌, ◌≡◌, Bool, true, false, cond, List, [], ◌∷◌, ◌++◌, length, get_or, take, drop, refl, sym, ap, ◌∙◌, arith, add-zero, append_assoc, append-nil, length-take, length-drop}
use Rattle.std.specs.Prelude.{Option, None, Some}
use lib.Seq.{drop-cons, take_all}
use borrow.Author.Tests.{eqb-false, ne_eqb, lt-ltb, le-ltb, le-leb, lt-leb}
use Rattle.limits.specs.Limits.{numbers}
use Rattle.rules.specs.declared.Leaving.{Leaving}
use Rattle.rules.specs.declared.Leaving.TheVariants.{Nothing, Jump, Branch, Exchanged, Bridge}
use Rattle.rules.specs.Graph as graph
use Rattle.rules.specs.Graph.{names}
use Rattle.rules.specs.Exits.{Place, edges, laid_block, bridge_for, bridge_of, new_after, next_in, lay_part, bridges}
use Rattle.exits.specs.Lays.{next_at, cold_at, lay_at}
use Rattle.exits.proofs.Steps.{leave_at, new_to, laid_at, laid_to}

module _ (at : ℕ → graph.Block) (g : graph.Graph) (o : List ℕ) (split : Option ℕ) where
  -- l stands from place i on, is a part, and its blocks are those of g
  abbrev Part : Bool → ℕ → List ℕ → Type 0
  Part cold i [] = Unit
  Part cold i (n ∷ l) = ((get_or o i 0 ≡ n) × (next_at o split i ≡ next_in l) × (cold_at split i ≡ cold) × (at n ≡ graph.block_at g n)) × Part cold (suc i) l

  laid_more : (i n : ℕ) (cold : Bool) (l : List ℕ) → get_or o i 0 ≡ n → next_at o split i ≡ next_in l → cold_at split i ≡ cold → at n ≡ graph.block_at g n →
      (laid_at at o split i ≡ laid_block (new_to at o split i) (graph.block_at g n) (edges (next_in l) (graph.block_at g n).end (graph.block_at g n).arms)
      ∷ bridge_of (new_to at o split i) cold (graph.block_at g n) (edges (next_in l) (graph.block_at g n).end (graph.block_at g n).arms))
      × (leave_at at o split i ≡ edges (next_in l) (graph.block_at g n).end (graph.block_at g n).arms)
  unfolding laid_at leave_at
  laid_more i n cold l en ex ec ea = (rw (en, ex, ec, ea), rw (en, ex, ea))

  part_laid : (cold : Bool) (l : List ℕ) (i : ℕ) → Part cold i l → laid_to at o split (i + length l) ≡ laid_to at o split i ++ lay_part g cold (new_to at o split i) l
  unfolding lay_part new_to laid_to
  part_laid cold [] i h = rw add-zero (sym (append-nil (laid_to at o split i)))
  part_laid cold (n ∷ l) i h =
      let m = laid_more i n cold l h.0.0 h.0.1 h.0.2 h.0.3 in
      let e : i + suc (length l) ≡ suc i + length l = omega arith in
      ap (laid_to at o split) e ∙ part_laid cold l (suc i) h.1
      ∙ joined i (laid_at at o split i) (lay_part g cold (new_to at o split (suc i)) l)
      ∙ ap (λ (k : List Place). laid_to at o split i ++ (k ++ lay_part g cold (new_to at o split (suc i)) l)) m.0
      ∙ ap (λ (k : ℕ). laid_to at o split i ++ ((laid_block (new_to at o split i) (graph.block_at g n) (v m) ∷ bridge_of (new_to at o split i) cold (graph.block_at g n) (v m)) ++ lay_part g cold k l)) (after i (v m) m.1)
    where
      v : {A : Type 0} → A → Leaving
      v x = edges (next_in l) (graph.block_at g n).end (graph.block_at g n).arms

      joined : (i : ℕ) (s t : List Place) → (laid_to at o split i ++ s) ++ t ≡ laid_to at o split i ++ (s ++ t)
      joined i s t = append_assoc (laid_to at o split i) s t

      after : (i : ℕ) (u : Leaving) → leave_at at o split i ≡ u → new_after (new_to at o split i) (leave_at at o split i) ≡ new_after (new_to at o split i) u
      after i u q = ap (new_after (new_to at o split i)) q

  -- ---- the numbers of bridges
  bridges_append : (s t : List Place) → bridges (s ++ t) ≡ bridges s + bridges t
  unfolding bridges
  bridges_append [] t = omega arith
  bridges_append (p ∷ s) t = go (bridges_append s t) p.is_bridge
    where
      go : bridges (s ++ t) ≡ bridges s + bridges t → (b : Bool) → cond b (suc (bridges (s ++ t))) (bridges (s ++ t)) ≡ cond b (suc (bridges s)) (bridges s) + bridges t
      go ih true = omega (arith, ih)
      go ih false = ih

  bridges_at : (new : ℕ) (cold : Bool) (b : graph.Block) (v : Leaving) → new + bridges (laid_block new b v ∷ bridge_of new cold b v) ≡ new_after new v
  unfolding bridges laid_block bridge_of bridge_for new_after
  bridges_at new cold b Nothing = omega arith
  bridges_at new cold b Jump = omega arith
  bridges_at new cold b Branch = omega arith
  bridges_at new cold b Exchanged = omega arith
  bridges_at new cold b (Bridge i) = omega arith

  pub new_bridges : (i : ℕ) → new_to at o split i ≡ numbers + bridges (laid_to at o split i)
  unfolding new_to laid_to laid_at bridges
  new_bridges zero = refl
  new_bridges (suc i) =
      sym (bridges_at (new_to at o split i) (cold_at split i) (at (get_or o i 0)) (leave_at at o split i))
      ∙ omega (arith, new_bridges i, bridges_append (laid_to at o split i) (laid_at at o split i))

  nothing_laid : (l : List Place) → laid_to at o split 0 ++ l ≡ l
  unfolding laid_to
  nothing_laid l = refl

  first_new : new_to at o split 0 ≡ numbers
  unfolding new_to
  first_new = refl

  -- ---- the parts of the order
  module _ (own : (i : ℕ) → i < length o → at (get_or o i 0) ≡ graph.block_at g (get_or o i 0)) where
    next_end : (i e : ℕ) → suc i ≡ e → ((names split e ≡ false) → e ≡ length o) → next_at o split i ≡ None
    unfolding next_at
    next_end i e q ee = go (names split (suc i)) refl
      where
        go : (t : Bool) → names split (suc i) ≡ t → next_at o split i ≡ None
        go true z = rw z
        go false z = rw (z, le-ltb (suc i) (length o) (omega (arith, q, ee (ap (names split) (sym q) ∙ z))))

    next_in_lem : (i e k : ℕ) → suc i < e → e ≤ length o → names split (suc i) ≡ false → next_at o split i ≡ next_in (take (suc k) (drop (suc i) o))
    unfolding next_at next_in
    next_in_lem i e k h el f = rw (f, lt-ltb (suc i) (length o) (omega (arith, h, el)), drop-cons o (suc i) 0 (omega (arith, h, el)))

    next_in_none : next_in [] ≡ None
    unfolding next_in
    next_in_none = refl

    part_is : (cold : Bool) (k i e : ℕ) → i + k ≡ e → e ≤ length o → (names split e ≡ false → e ≡ length o) → ((x : ℕ) → i ≤ x → suc x < e → names split (suc x) ≡ false) → ((x : ℕ) → i ≤ x → x < e → cold_at split x ≡ cold) →
        Part cold i (take k (drop i o))
    part_is cold zero i e ek el ee es ec = tt
    part_is cold (suc k) i e ek el ee es ec =
        rw (drop-cons o i 0 (omega (arith, ek, el))) (
          (refl, next k ek, ec i (omega arith) (omega (arith, ek)), own i (omega (arith, ek, el))),
          part_is cold k (suc i) e (omega (arith, ek)) el ee (λ x a. es x (omega (arith, a))) (λ x a. ec x (omega (arith, a))),
        )
      where
        next : (k : ℕ) → i + suc k ≡ e → next_at o split i ≡ next_in (take k (drop (suc i) o))
        next zero q = next_end i e (omega (arith, q)) ee ∙ sym next_in_none
        next (suc k) q = next_in_lem i e k (omega (arith, q)) el (es i (omega arith) (omega (arith, q)))

-- one part that is not cold
module _ (at : ℕ → graph.Block) (g : graph.Graph) (o : List ℕ) (split : Option ℕ) (own : (i : ℕ) → i < length o → at (get_or o i 0) ≡ graph.block_at g (get_or o i 0)) where
  first_part : (e : ℕ) → e ≤ length o → (names split e ≡ false → e ≡ length o) → ((x : ℕ) → suc x < e → names split (suc x) ≡ false) → ((x : ℕ) → x < e → cold_at split x ≡ false) →
      laid_to at o split e ≡ lay_part g false numbers (take e o)
  first_part e el ee es ec =
      ap (laid_to at o split) long ∙ part_laid at g o split false (take e (drop 0 o)) 0 (part_is at g o split own false e 0 e (omega arith) el ee (λ x _. es x) (λ x _. ec x))
      ∙ nothing_laid at g o split (lay_part g false (new_to at o split 0) (take e (drop 0 o))) ∙ ap (λ (k : ℕ). lay_part g false k (take e o)) (first_new at g o split)
    where
      long : e ≡ 0 + length (take e (drop 0 o))
      long = omega (arith, el, length-take e o)

-- THE LAW
pub laid_is : (at : ℕ → graph.Block) (g : graph.Graph) (o : List ℕ) (split : Option ℕ) → ((i : ℕ) → i < length o → at (get_or o i 0) ≡ graph.block_at g (get_or o i 0)) → ((s : ℕ) → split ≡ Some s → s ≤ length o) →
    laid_to at o split (length o) ≡ lay_at g o split
unfolding lay_at names cold_at
laid_is at g o None own inside =
    first_part at g o None own (length o) (omega arith) (λ _. refl) (λ x _. refl) (λ x _. refl) ∙ ap (lay_part g false numbers) (take_all (length o) o (omega arith))
laid_is at g o (Some s) own inside =
    let q : s ≤ length o = inside s refl in
    let whole = take_all (length o - s) (drop s o) (simp length-drop (omega arith)) in
    let long : length o ≡ s + length (take (length o - s) (drop s o)) = omega (arith, q, ap length whole, length-drop s o) in
    let warm : laid_to at o (Some s) s ≡ lay_part g false numbers (take s o) =
    first_part at g o (Some s) own s q (λ f. absurd (eqb-false s s f refl)) (λ x h. ne_eqb s (suc x) (λ z. omega (arith, h, z))) (λ x h. lt-leb s x h) in
    ap (laid_to at o (Some s)) long
    ∙ part_laid at g o (Some s) true (take (length o - s) (drop s o)) s
    (part_is at g o (Some s) own true (length o - s) s (length o) (omega (arith, q)) (omega arith) (λ _. refl) (λ x a b. ne_eqb s (suc x) (λ z. omega (arith, a, z))) (λ x a b. le-leb s x a))
    ∙ ap (λ (k : List ℕ). laid_to at o (Some s) s ++ lay_part g true (new_to at o (Some s) s) k) whole
    ∙ ap (λ (k : ℕ). laid_to at o (Some s) s ++ lay_part g true k (drop s o)) (new_bridges at g o (Some s) s)
    ∙ ap (λ (k : List Place). k ++ lay_part g true (numbers + bridges k) (drop s o)) warm
