-- What holds of every layout call, by its contract alone: of any answer and any lent bytes that the contract allows. The demands are
-- spelled out in `rules` (proofs/Demands); here they are said of what the call writes. Assumes nothing.
use Prim.Native.Nat.{ℕ}
use native.Mathlib.Omega.{arith}
use mathlib.Core.Path.{◌≡◌, refl, sym, ap, ◌∙◌}
use mathlib.Core.Bool.{Bool, true, false}
use mathlib.Core.Logic.{◌⊎◌, inl, inr}
use mathlib.Core.List.{List, ◌++◌}
use lib.Dec.{eqb, ltb}
use lib.ListN.{length, drop}
use borrow.Author.Tests.{eqb-true, eqb-false}
use Rattle.rules.specs.declared.Answer.{Answer}
use Rattle.rules.specs.Graph.{Graph}
use Rattle.rules.specs.Records.{records, graph_of}
use Rattle.rules.specs.Refusals.{verdict}
use Rattle.rules.specs.Exits.{Place}
use Rattle.rules.specs.Laid.{layout, split_of, laid_bytes}
use Rattle.rules.specs.Outcome.{Outcome, refusal, refused, laid, layout_of, layout_blocks}
use Rattle.rules.proofs.Demands.{Demands, accepted_demands}

module _ (forward reorder : Bool) (s d : List ℕ) where
  -- the contract of `layout_blocks` allows this answer with these lent bytes
  pub record Allowed (a : Answer) (o : List ℕ) : Type 0 where
    pub answer_is : a ≡ (layout_blocks forward reorder s d).answer
    pub lent_is : o ≡ (layout_blocks forward reorder s d).lent

  -- "any two outcomes allowed are equal"
  pub determined : (a b : Answer) (o p : List ℕ) → Allowed a o → Allowed b p → (a ≡ b) × (o ≡ p)
  determined a b o p x y = (x.answer_is ∙ sym y.answer_is, x.lent_is ∙ sym y.lent_is)

  abbrev g : Graph
  g = graph_of (records s)

  abbrev places : List Place
  places = layout forward reorder g

  abbrev bytes : List ℕ
  bytes = laid_bytes (split_of forward reorder g) places

  -- refused: the lent bytes are as they were
  pub record Refused (a : Answer) (o : List ℕ) : Type 0 where
    pub number : a.refusal ≡ 0 → ⊥
    pub kept : o ≡ d
    pub nothing : (a.written ≡ 0) × (a.blocks ≡ 0) × (a.bridges ≡ 0) × (a.moved ≡ 0) × (a.split ≡ 0)

  -- laid: the file is a good one, the records of its layout are at the front of the lent bytes and the rest is kept, the numbers are
  -- those of the layout, and every demand holds of it
  pub record Laid (a : Answer) (o : List ℕ) : Type 0 where
    pub accepted : (verdict s).number ≡ 0
    pub lent : o ≡ bytes ++ drop (length bytes) d
    pub answer : a ≡ laid forward reorder g places (length bytes)
    pub demands : Demands g forward reorder

  is_refused : (a : Answer) (o : List ℕ) → Allowed a o → (n p k : ℕ) → (n ≡ 0 → ⊥) → layout_blocks forward reorder s d ≡ refused n p k d → Refused a o
  unfolding refused refusal
  is_refused a o h n p k z e =
      let q : a ≡ refusal n p k = h.answer_is ∙ ap (λ (x : Outcome). x.answer) e in
      record {
        number = λ y. z (sym (ap (λ (x : Answer). x.refusal) q) ∙ y);
        kept = h.lent_is ∙ ap (λ (x : Outcome). x.lent) e;
        nothing = (ap (λ (x : Answer). x.written) q, ap (λ (x : Answer). x.blocks) q, ap (λ (x : Answer). x.bridges) q, ap (λ (x : Answer). x.moved) q, ap (λ (x : Answer). x.split) q);
      }

  not_read : eqb (verdict s).number 0 ≡ false → layout_blocks forward reorder s d ≡ refused (verdict s).number (verdict s).place 0 d
  unfolding layout_blocks
  not_read e = rw (e, layout_blocks) refl

  read : eqb (verdict s).number 0 ≡ true → layout_blocks forward reorder s d ≡ layout_of forward reorder g d
  unfolding layout_blocks
  read e = rw (e, layout_blocks) refl

  no_room : eqb (verdict s).number 0 ≡ true → ltb (length d) (length bytes) ≡ true → layout_blocks forward reorder s d ≡ refused 10 0 (length bytes) d
  unfolding layout_of
  no_room e f = read e ∙ rw (f, layout_of) refl

  is_laid : (a : Answer) (o : List ℕ) → Allowed a o → eqb (verdict s).number 0 ≡ true → ltb (length d) (length bytes) ≡ false → Laid a o
  unfolding layout_of
  is_laid a o h e f =
      let q : layout_blocks forward reorder s d ≡ record { answer = laid forward reorder g places (length bytes); lent = bytes ++ drop (length bytes) d } = read e ∙ rw (f, layout_of) refl in
      record {
        accepted = eqb-true (verdict s).number 0 e;
        lent = h.lent_is ∙ ap (λ (x : Outcome). x.lent) q;
        answer = h.answer_is ∙ ap (λ (x : Outcome). x.answer) q;
        demands = accepted_demands s (eqb-true (verdict s).number 0 e) forward reorder;
      }

  -- THE THEOREM: a call has refused, or it has laid
  pub refused_or_laid : (a : Answer) (o : List ℕ) → Allowed a o → Refused a o ⊎ Laid a o
  refused_or_laid a o h = go (eqb (verdict s).number 0) refl (ltb (length d) (length bytes)) refl
    where
      bad : (n p k : ℕ) → (n ≡ 0 → ⊥) → layout_blocks forward reorder s d ≡ refused n p k d → Refused a o ⊎ Laid a o
      bad n p k z e = inl (is_refused a o h n p k z e)

      go : (c : Bool) → eqb (verdict s).number 0 ≡ c → (b : Bool) → ltb (length d) (length bytes) ≡ b → Refused a o ⊎ Laid a o
      go false e b f = bad (verdict s).number (verdict s).place 0 (eqb-false (verdict s).number 0 e) (not_read e)
      go true e true f = bad 10 0 (length bytes) (λ z. omega (arith, z)) (no_room e f)
      go true e false f = inr (is_laid a o h e f)
