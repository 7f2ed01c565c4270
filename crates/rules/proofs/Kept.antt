-- THEOREMS refusal_keeps and determined: a refusal changes no lent byte and says nothing but its number, its place and, under 10,
-- the bytes needed; and the contract of a public call leaves one outcome. Assumes nothing.
use Prim.Native.Nat.{ℕ}
use mathlib.Core.Path.{◌≡◌, refl, sym, ap, subst, ◌∙◌}
use mathlib.Core.Bool.{Bool, true, false, cond}
use mathlib.Core.List.{List}
use lib.Dec.{ltb}
use lib.ListN.{length}
use Rattle.lists.proofs.Choices.{split_eq}
use Rattle.rules.specs.declared.Answer.{Answer}
use Rattle.rules.specs.Records.{records, graph_of, written}
use Rattle.rules.specs.Refusals.{verdict}
use Rattle.rules.specs.Outcome.{Outcome, refusal, refused, write_back, layout_blocks}
use Rattle.rules.proofs.Exactly.{Settles, back_settles, laid_out, layout_settles}

-- "zero elsewhere, and no lent byte changes"
pub record Keeps (lent : List ℕ) (o : Outcome) : Type 0 where
  pub bytes : o.lent ≡ lent
  pub needed : (o.answer.refusal ≡ 10 → ⊥) → o.answer.needed ≡ 0
  pub written_none : o.answer.written ≡ 0
  pub blocks : o.answer.blocks ≡ 0
  pub bridges : o.answer.bridges ≡ 0
  pub moved : o.answer.moved ≡ 0
  pub split : o.answer.split ≡ 0

keeps_refused : (number place : ℕ) (lent : List ℕ) → Keeps lent (refused number place 0 lent)
unfolding refused refusal
keeps_refused number place lent =
    record { bytes = refl; needed = λ z. refl; written_none = refl; blocks = refl; bridges = refl; moved = refl; split = refl }

keeps_short : (n : ℕ) (lent : List ℕ) → Keeps lent (refused 10 0 n lent)
unfolding refused refusal
keeps_short n lent =
    record { bytes = refl; needed = λ z. absurd (z refl); written_none = refl; blocks = refl; bridges = refl; moved = refl; split = refl }

keeps_settled : (s lent : List ℕ) (needed : ℕ) (o : Outcome) → Settles s lent needed o → (o.answer.refusal ≡ 0 → ⊥) → Keeps lent o
keeps_settled s lent needed o k z =
    split_eq (verdict s).number
    (λ e. go (ltb (length lent) needed) (k.when_accepted e))
    (λ e. subst (λ (x : Outcome). Keeps lent x) (sym (k.when_refused e)) (keeps_refused (verdict s).number (verdict s).place lent))
  where
    go : (b : Bool) → o ≡ cond b (refused 10 0 needed lent) k.done → Keeps lent o
    go true e = subst (λ (x : Outcome). Keeps lent x) (sym e) (keeps_short needed lent)
    go false e = absurd (z (ap (λ (x : Outcome). x.answer.refusal) e ∙ k.number))

pub refusal_keeps : (s lent : List ℕ) → ((write_back s lent).answer.refusal ≡ 0 → ⊥) → Keeps lent (write_back s lent)
refusal_keeps s lent = keeps_settled s lent (length (written (graph_of (records s)))) (write_back s lent) (back_settles s lent)

pub layout_refusal_keeps : (forwarding reorder : Bool) (s lent : List ℕ) → ((layout_blocks forwarding reorder s lent).answer.refusal ≡ 0 → ⊥)
    → Keeps lent (layout_blocks forwarding reorder s lent)
layout_refusal_keeps f r s lent = keeps_settled s lent (length (laid_out f r s)) (layout_blocks f r s lent) (layout_settles f r s lent)

-- what the contract of `layout_write_back` says of an answer and of the lent bytes at its end
pub record Allowed (s lent : List ℕ) (answer : Answer) (after : List ℕ) : Type 0 where
  pub answer_is : answer ≡ (write_back s lent).answer
  pub bytes_are : after ≡ (write_back s lent).lent

pub determined : (s lent : List ℕ) (a b : Answer) (x y : List ℕ) → Allowed s lent a x → Allowed s lent b y → (a ≡ b) × (x ≡ y)
determined s lent a b x y p q = (p.answer_is ∙ sym q.answer_is, p.bytes_are ∙ sym q.bytes_are)

-- what the contract of `layout_blocks` says of them
pub record LayoutAllowed (forwarding reorder : Bool) (s lent : List ℕ) (answer : Answer) (after : List ℕ) : Type 0 where
  pub answer_is : answer ≡ (layout_blocks forwarding reorder s lent).answer
  pub bytes_are : after ≡ (layout_blocks forwarding reorder s lent).lent

pub layout_determined : (forwarding reorder : Bool) (s lent : List ℕ) (a b : Answer) (x y : List ℕ) → LayoutAllowed forwarding reorder s lent a x
    → LayoutAllowed forwarding reorder s lent b y → (a ≡ b) × (x ≡ y)
layout_determined forwarding reorder s lent a b x y p q = (p.answer_is ∙ sym q.answer_is, p.bytes_are ∙ sym q.bytes_are)
