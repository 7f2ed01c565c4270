-- Forwarding and spreading keep the numbers of the blocks, and every arm goes to a listed block after them if it did before.
-- Assumes nothing.
use Prim.Native.Nat.{ℕ, zero, suc, ◌+◌, ◌/◌, ◌%◌}
use native.Mathlib.Omega.{arith}
use mathlib.Core.Path.{◌≡◌, refl, sym, ap, ap₂, ◌∙◌, subst}
use mathlib.Core.Bool.{Bool, true, false, not, ◌&&◌, ◌||◌, cond, true≢false}
use mathlib.Core.Logic.{◌⊎◌, inl, inr, ⊎_elim}
use mathlib.Core.List.{List, [], ◌∷◌, ◌++◌, map}
use Rattle.std.specs.Prelude.{Option, None, Some}
use lib.Dec.{eqb, eqb→eq}
use lib.ListN.{length}
use Rattle.rules.specs.Lists.{any, find, mem}
use Rattle.rules.specs.Graph.{Arm, Block, Graph, bit, is_entry, is_cold, is_dead, is_addressed, no_block, block_at, numbers_of, targets, entry, with_arms}
use Rattle.rules.specs.Ours.{ours}
use Rattle.rules.specs.Forward.{through, leaves_at, goal, moved_arms, moved_block, moved_all, entered, cleared_block, forward}
use Rattle.rules.specs.Spread.{cold_set, chilled, spread}
use Rattle.rules.specs.Laid.{readied}
use Rattle.rules.proofs.Membership.{In, map-In}
use Rattle.rules.proofs.Wholeness.{Whole, block_in}
use Rattle.rules.proofs.WaysThrough.{way_through}

-- ---- a block by its number, listed or not
pub block_or : (g : Graph) (n : ℕ) → In n (numbers_of g) ⊎ (block_at g n ≡ no_block)
unfolding numbers_of block_at find
block_or [] n = inr refl
block_or (x ∷ g) n = go (block_or g n) (eqb x.number n) refl
  where
    go : In n (numbers_of g) ⊎ (block_at g n ≡ no_block) → (b : Bool) → eqb x.number n ≡ b → In n (numbers_of (x ∷ g)) ⊎ (cond b x (block_at g n) ≡ no_block)
    go ih true e = inl (inl (sym (eqb→eq x.number n (rw e tt))))
    go ih false e = ⊎_elim (λ i. inl (inr i)) (λ q. inr q) ih

-- ---- ways through
pub through_in : (b : Block) (t : ℕ) → through b ≡ Some t → In t (targets b)
unfolding targets
through_in b t e = let w = (way_through b t).0 e in rw w.only (inl (sym w.to))

no_through : (t : ℕ) → through no_block ≡ Some t → ⊥
unfolding targets no_block
no_through t e = through_in no_block t e

-- a way through is listed
pub through_listed : (g : Graph) (n t : ℕ) → through (block_at g n) ≡ Some t → In n (numbers_of g)
through_listed g n t e = ⊎_elim (λ i. i) (λ q. absurd (no_through t (ap through (sym q) ∙ e))) (block_or g n)

module _ (g : Graph) (w : Whole g) where
  -- where a way through leads is listed
  pub through_target : (n t : ℕ) → through (block_at g n) ≡ Some t → In t (numbers_of g)
  through_target n t e = w (block_at g n) (block_in g n (through_listed g n t e)).0 t (through_in (block_at g n) t e)

  leaves_listed : (k n m : ℕ) → In n (numbers_of g) → leaves_at g k n ≡ Some m → In m (numbers_of g)
  unfolding leaves_at
  leaves_listed zero n m i e = absurd (let z : ◌≡◌ {A = ℕ} 0 1 = cc in omega arith)
  leaves_listed (suc k) n m i e = go (λ t. leaves_listed k t m) (through (block_at g n)) refl e
    where
      go : ((t : ℕ) → In t (numbers_of g) → leaves_at g k t ≡ Some m → In m (numbers_of g)) → (o : Option ℕ) → through (block_at g n) ≡ o
          → (elim o as (λ (x : Option ℕ). Option ℕ) [ None ↦ Some n | Some t ↦ leaves_at g k t ]) ≡ Some m → In m (numbers_of g)
      go ih None q e = let r : n ≡ m = cc in subst (λ (x : ℕ). In x (numbers_of g)) r i
      go ih (Some t) q e = ih t (through_target n t q) e

  pub goal_listed : (n m : ℕ) → goal g n ≡ Some m → In m (numbers_of g)
  unfolding goal
  goal_listed n m e = go (through (block_at g n)) refl e
    where
      go : (o : Option ℕ) → through (block_at g n) ≡ o → (elim o as (λ (x : Option ℕ). Option ℕ) [ None ↦ None | Some t ↦ leaves_at g (length g) t ]) ≡ Some m → In m (numbers_of g)
      go None q e = absurd (let z : ◌≡◌ {A = ℕ} 0 1 = cc in omega arith)
      go (Some t) q e = leaves_listed (length g) t m (through_target n t q) e

  -- ---- moved arms
  moved_target : (done l : List Arm) (c : ℕ) → ((x : ℕ) → In x (map (λ (a : Arm). a.to) l) → In x (numbers_of g))
      → In c (map (λ (a : Arm). a.to) (moved_arms (goal g) done l)) → In c (numbers_of g)
  unfolding moved_arms
  moved_target done [] c h i = absurd i
  moved_target done (a ∷ l) c h i =
      go (goal g a.to) refl (λ b. moved_target (done ++ (b ∷ [])) l c (λ x j. h x (inr j))) i
    where
      here : (o : Option ℕ) → Arm
      here o = elim o as (λ (x : Option ℕ). Arm) [
        | None ↦ a
        | Some m ↦
            elim (any (λ (x : Arm). eqb x.to m) (done ++ (a ∷ l))) as (λ (x : Bool). Arm) [ true ↦ a | false ↦ record { to = m; args = a.args; weight = a.weight } ]
      ]

      Rest : Arm → Type 0
      Rest b = In c (map (λ (a : Arm). a.to) (moved_arms (goal g) (done ++ (b ∷ [])) l)) → In c (numbers_of g)

      pass : (m : ℕ) → goal g a.to ≡ Some m → (t : Bool)
          → (c ≡ (elim t as (λ (x : Bool). Arm) [ true ↦ a | false ↦ record { to = m; args = a.args; weight = a.weight } ]).to) → In c (numbers_of g)
      pass m q true e = h c (inl e)
      pass m q false e = subst (λ (x : ℕ). In x (numbers_of g)) (sym e) (goal_listed a.to m q)

      go : (o : Option ℕ) → goal g a.to ≡ o → ((b : Arm) → Rest b) → In c (map (λ (a : Arm). a.to) (here o ∷ moved_arms (goal g) (done ++ (here o ∷ [])) l)) → In c (numbers_of g)
      go None q ih (inl e) = h c (inl e)
      go (Some m) q ih (inl e) = pass m q (any (λ (x : Arm). eqb x.to m) (done ++ (a ∷ l))) e
      go o q ih (inr j) = ih (here o) j

  moved_block_lem : (b : Block) → In b g → (c : ℕ) → In c (targets (moved_block (goal g) b)) → In c (numbers_of g)
  unfolding moved_block targets with_arms
  moved_block_lem b i c j = go (ours b) j
    where
      go : (t : Bool) → In c (map (λ (a : Arm). a.to) (elim t as (λ (x : Bool). Block) [ false ↦ b | true ↦ with_arms b (moved_arms (goal g) [] b.arms) ]).arms) → In c (numbers_of g)
      go false j = w b i c j
      go true j = moved_target [] b.arms c (λ x k. w b i x k) j

-- ---- numbers
moved_number : (goals : ℕ → Option ℕ) (b : Block) → (moved_block goals b).number ≡ b.number
unfolding moved_block with_arms
moved_number goals b = go (ours b)
  where
    go : (t : Bool) → (elim t as (λ (x : Bool). Block) [ false ↦ b | true ↦ with_arms b (moved_arms goals [] b.arms) ]).number ≡ b.number
    go true = refl
    go false = refl

cleared_number : (goals : ℕ → Option ℕ) (h : Graph) (b : Block) → (cleared_block goals h b).number ≡ b.number
unfolding cleared_block
cleared_number goals h b = go (goals b.number)
  where
    bare : Block
    bare = record { number = b.number; marks = cond (is_dead b.marks) b.marks (b.marks + 4); end = b.end; weight = 0; arms = [] }

    step : (t : Bool) → (elim t as (λ (x : Bool). Block) [ true ↦ b | false ↦ bare ]).number ≡ b.number
    step true = refl
    step false = refl

    go : (o : Option ℕ) → (elim o as (λ (x : Option ℕ). Block) [ None ↦ b | Some m ↦ elim (entered h b.number || is_addressed b.marks) as (λ (x : Bool). Block) [ true ↦ b | false ↦ bare ] ]).number ≡ b.number
    go None = refl
    go (Some m) = step (entered h b.number || is_addressed b.marks)

cleared_target : (goals : ℕ → Option ℕ) (h : Graph) (b : Block) (c : ℕ) → In c (targets (cleared_block goals h b)) → In c (targets b)
unfolding cleared_block targets
cleared_target goals h b c i = go (goals b.number) i
  where
    bare : Block
    bare = record { number = b.number; marks = cond (is_dead b.marks) b.marks (b.marks + 4); end = b.end; weight = 0; arms = [] }

    step : (t : Bool) → In c (targets (elim t as (λ (x : Bool). Block) [ true ↦ b | false ↦ bare ])) → In c (targets b)
    step true i = i
    step false i = absurd i

    go : (o : Option ℕ) → In c (targets (elim o as (λ (x : Option ℕ). Block) [ None ↦ b | Some m ↦ elim (entered h b.number || is_addressed b.marks) as (λ (x : Bool). Block) [ true ↦ b | false ↦ bare ] ])) → In c (targets b)
    go None i = i
    go (Some m) i = step (entered h b.number || is_addressed b.marks) i

mapped_numbers : (f : Block → Block) → ((b : Block) → (f b).number ≡ b.number) → (g : Graph) → numbers_of (map f g) ≡ numbers_of g
unfolding numbers_of
mapped_numbers f h [] = refl
mapped_numbers f h (b ∷ g) = ap₂ ◌∷◌ (h b) (mapped_numbers f h g)

pub forward_numbers : (g : Graph) → numbers_of (forward g) ≡ numbers_of g
unfolding forward moved_all
forward_numbers g =
    mapped_numbers (cleared_block (goal g) (moved_all g)) (cleared_number (goal g) (moved_all g)) (moved_all g)
    ∙ mapped_numbers (moved_block (goal g)) (moved_number (goal g)) g

pub forward_whole : (g : Graph) → Whole g → Whole (forward g)
unfolding forward moved_all
forward_whole g w x i c j =
    let r = map-In (cleared_block (goal g) (moved_all g)) (moved_all g) x i in
    let s = map-In (moved_block (goal g)) g r.0 r.1 in
    let k : In c (targets r.0) = cleared_target (goal g) (moved_all g) r.0 c (subst (λ (y : Block). In c (targets y)) r.2 j) in
    subst (λ (l : List ℕ). In c l) (sym (forward_numbers g))
    (moved_block_lem g w s.0 s.1 c (subst (λ (y : Block). In c (targets y)) s.2 k))

-- ---- spread changes marks only
pub chilled_number : (s : List ℕ) (b : Block) → (chilled s b).number ≡ b.number
unfolding chilled
chilled_number s b = go (mem b.number s && not (is_cold b.marks))
  where
    go : (c : Bool) → (elim c as (λ (x : Bool). Block) [ false ↦ b | true ↦ record { number = b.number; marks = b.marks + 2; end = b.end; weight = b.weight; arms = b.arms } ]).number ≡ b.number
    go true = refl
    go false = refl

pub chilled_arms : (s : List ℕ) (b : Block) → (chilled s b).arms ≡ b.arms
unfolding chilled
chilled_arms s b = go (mem b.number s && not (is_cold b.marks))
  where
    go : (c : Bool) → (elim c as (λ (x : Bool). Block) [ false ↦ b | true ↦ record { number = b.number; marks = b.marks + 2; end = b.end; weight = b.weight; arms = b.arms } ]).arms ≡ b.arms
    go true = refl
    go false = refl

pub spread_numbers : (g : Graph) → numbers_of (spread g) ≡ numbers_of g
unfolding spread
spread_numbers g = mapped_numbers (chilled (cold_set g)) (chilled_number (cold_set g)) g

pub spread_whole : (g : Graph) → Whole g → Whole (spread g)
unfolding spread targets
spread_whole g w x i c j =
    let r = map-In (chilled (cold_set g)) g x i in
    let e : x.arms ≡ r.0.arms = ap (λ (b : Block). b.arms) r.2 ∙ chilled_arms (cold_set g) r.0 in
    subst (λ (l : List ℕ). In c l) (sym (spread_numbers g)) (w r.0 r.1 c (subst (λ (l : List Arm). In c (map (λ (a : Arm). a.to) l)) e j))

-- ---- the graph that is laid
pub readied_numbers : (forwarding : Bool) (g : Graph) → numbers_of (readied forwarding g) ≡ numbers_of g
unfolding readied
readied_numbers true g = spread_numbers (forward g) ∙ forward_numbers g
readied_numbers false g = spread_numbers g

pub readied_whole : (forwarding : Bool) (g : Graph) → Whole g → Whole (readied forwarding g)
unfolding readied
readied_whole true g w = spread_whole (forward g) (forward_whole g w)
readied_whole false g w = spread_whole g w

-- ---- the entry stays
mapped_entry : (f : Block → Block) → ((b : Block) → (f b).number ≡ b.number) → ((b : Block) → is_entry (f b).marks ≡ is_entry b.marks) → (g : Graph) → entry (map f g) ≡ entry g
unfolding entry
mapped_entry f n h [] = refl
mapped_entry f n h (b ∷ g) = go (mapped_entry f n h g) (is_entry (f b).marks) (is_entry b.marks) (h b)
  where
    go : entry (map f g) ≡ entry g → (x y : Bool) → x ≡ y
        → ◌≡◌ {A = Option ℕ} (elim x [ true ↦ Some (f b).number | false ↦ entry (map f g) ]) (elim y [ true ↦ Some b.number | false ↦ entry g ])
    go ih true true e = ap (λ (m : ℕ). Some m) (n b)
    go ih false false e = ih
    go ih true false e = absurd (true≢false e)
    go ih false true e = absurd (true≢false (sym e))

two_more : (m : ℕ) → is_entry (m + 2) ≡ is_entry m
unfolding is_entry bit
two_more m = ap (λ (k : ℕ). eqb k 1) (let e : (m + 2) / 1 % 2 ≡ m / 1 % 2 = omega arith in e)

four_more : (m : ℕ) → is_entry (m + 4) ≡ is_entry m
unfolding is_entry bit
four_more m = ap (λ (k : ℕ). eqb k 1) (let e : (m + 4) / 1 % 2 ≡ m / 1 % 2 = omega arith in e)

moved_entry : (goals : ℕ → Option ℕ) (b : Block) → is_entry (moved_block goals b).marks ≡ is_entry b.marks
unfolding moved_block with_arms
moved_entry goals b = go (ours b)
  where
    go : (t : Bool) → is_entry (elim t as (λ (x : Bool). Block) [ false ↦ b | true ↦ with_arms b (moved_arms goals [] b.arms) ]).marks ≡ is_entry b.marks
    go true = refl
    go false = refl

cleared_entry : (goals : ℕ → Option ℕ) (h : Graph) (b : Block) → is_entry (cleared_block goals h b).marks ≡ is_entry b.marks
unfolding cleared_block
cleared_entry goals h b = go (goals b.number)
  where
    dead : (t : Bool) → is_entry (cond t b.marks (b.marks + 4)) ≡ is_entry b.marks
    dead true = refl
    dead false = four_more b.marks

    bare : Block
    bare = record { number = b.number; marks = cond (is_dead b.marks) b.marks (b.marks + 4); end = b.end; weight = 0; arms = [] }

    step : (t : Bool) → is_entry (elim t as (λ (x : Bool). Block) [ true ↦ b | false ↦ bare ]).marks ≡ is_entry b.marks
    step true = refl
    step false = dead (is_dead b.marks)

    go : (o : Option ℕ) → is_entry (elim o as (λ (x : Option ℕ). Block) [ None ↦ b | Some m ↦ elim (entered h b.number || is_addressed b.marks) as (λ (x : Bool). Block) [ true ↦ b | false ↦ bare ] ]).marks ≡ is_entry b.marks
    go None = refl
    go (Some m) = step (entered h b.number || is_addressed b.marks)

chilled_entry : (s : List ℕ) (b : Block) → is_entry (chilled s b).marks ≡ is_entry b.marks
unfolding chilled
chilled_entry s b = go (mem b.number s && not (is_cold b.marks))
  where
    go : (c : Bool) → is_entry (elim c as (λ (x : Bool). Block) [ false ↦ b | true ↦ record { number = b.number; marks = b.marks + 2; end = b.end; weight = b.weight; arms = b.arms } ]).marks ≡ is_entry b.marks
    go true = two_more b.marks
    go false = refl

spread_entry : (g : Graph) → entry (spread g) ≡ entry g
unfolding spread
spread_entry g = mapped_entry (chilled (cold_set g)) (chilled_number (cold_set g)) (chilled_entry (cold_set g)) g

forward_entry : (g : Graph) → entry (forward g) ≡ entry g
unfolding forward moved_all
forward_entry g =
    mapped_entry (cleared_block (goal g) (moved_all g)) (cleared_number (goal g) (moved_all g)) (cleared_entry (goal g) (moved_all g)) (moved_all g)
    ∙ mapped_entry (moved_block (goal g)) (moved_number (goal g)) (moved_entry (goal g)) g

pub readied_entry : (forwarding : Bool) (g : Graph) → entry (readied forwarding g) ≡ entry g
unfolding readied
readied_entry true g = spread_entry (forward g) ∙ forward_entry g
readied_entry false g = spread_entry g
