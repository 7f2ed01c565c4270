-- THEOREM refuses_exactly: the answer has a number at a place exactly when that line of document 01's table holds there and no
-- line before it does; it has none exactly when no line holds. Assumes nothing.
use Prim.Native.Nat.{ℕ, suc, ◌<◌}
use native.Mathlib.Omega.{arith}
use mathlib.Core.Path.{◌≡◌, refl, sym, ap, ◌∙◌}
use mathlib.Core.Bool.{Bool, true, false, cond}
use mathlib.Core.List.{List, [], ◌∷◌, ◌++◌}
use lib.Dec.{ltb}
use lib.ListN.{length, drop}
use borrow.Author.Tests.{eq-eqb, ne_eqb}
use Rattle.lists.proofs.Choices.{split_eq}
use Rattle.rules.specs.declared.Record.{Record}
use Rattle.rules.specs.declared.Record.TheVariants.{Block, Arm, Outside}
use Rattle.rules.specs.Graph.{Graph}
use Rattle.rules.specs.Records.{records, graph_of, written}
use Rattle.rules.specs.Refusals.{Verdict, Check, check, record_checks, all_checks, panic_checks, checks, Clear, fine, first, verdict}
use Rattle.rules.specs.Laid.{layout, split_of, laid_bytes}
use Rattle.rules.specs.Outcome.{Outcome, refusal, refused, written_back, back_of, write_back, laid, layout_of, layout_blocks}
use Rattle.rules.proofs.Verdicts.{at, first_after, first_kept, first_clear}

-- a line of the list has this number and place and holds, and none before it does
pub record Refuses (l : List Check) (number place : ℕ) : Type 0 where
  pub earlier : List Check
  pub later : List Check
  pub lines : l ≡ earlier ++ check number place true ∷ later
  pub none : Clear earlier

-- ---- the first line
pub refuses_first : (l : List Check) (number place : ℕ) → Refuses l number place → first l ≡ at number place
unfolding first
refuses_first l number place r =
    ap first r.lines ∙ first_after r.earlier (check number place true ∷ r.later) r.none

pub first_refuses : (l : List Check) (number place : ℕ) → (number ≡ 0 → ⊥) → first l ≡ at number place → Refuses l number place
unfolding first fine
first_refuses [] number place z e = absurd (z (sym (ap (λ (v : Verdict). v.number) e)))
first_refuses (c ∷ l) number place z e = go (first_refuses l number place z) c.holds refl e
  where
    go : (first l ≡ at number place → Refuses l number place) → (b : Bool) → c.holds ≡ b → cond b (at c.number c.place) (first l) ≡ at number place
        → Refuses (c ∷ l) number place
    go rest true h e =
        record {
          earlier = [];
          later = l;
          lines =
              ap (λ (d : Check). d ∷ l)
              (λ i. record { number = (e i).number; place = (e i).place; holds = h i });
          none = tt;
        }
    go rest false h e =
        let r = rest e in
        record { earlier = c ∷ r.earlier; later = r.later; lines = ap (λ (k : List Check). c ∷ k) r.lines; none = (h, r.none) }

-- ---- every line has a number
abbrev Numbered : List Check → Type 0
Numbered [] = Unit
Numbered (c ∷ l) = (0 < c.number) × Numbered l

numbered_join : (xs ys : List Check) → Numbered xs → Numbered ys → Numbered (xs ++ ys)
numbered_join [] ys h k = k
numbered_join (c ∷ xs) ys h k = (h.0, numbered_join xs ys h.1 k)

numbered_record : (l : List Record) (r : Record) → Numbered (record_checks l r)
unfolding record_checks
numbered_record l (Block number marks end weight) = (omega arith, (omega arith, (omega arith, tt)))
numbered_record l (Arm from to args weight) = (omega arith, (omega arith, (omega arith, tt)))
numbered_record l Outside = (omega arith, tt)

numbered_all : (l : List Record) → Numbered (all_checks l)
unfolding all_checks
numbered_all [] = tt
numbered_all (r ∷ l) = numbered_join (all_checks l) (record_checks l r) (numbered_all l) (numbered_record l r)

numbered_panics : (i : ℕ) (g : Graph) → Numbered (panic_checks i g)
unfolding panic_checks
numbered_panics i [] = tt
numbered_panics i (b ∷ g) = (omega arith, numbered_panics (suc i) g)

numbered : (s : List ℕ) → Numbered (checks s)
unfolding checks
numbered s =
    (omega arith, (omega arith, numbered_join (all_checks (records s)) (panic_checks 0 (graph_of (records s))) (numbered_all (records s)) (numbered_panics 0 (graph_of (records s)))))

-- so a verdict without a number says that no line holds
clear_first : (l : List Check) → Numbered l → (first l).number ≡ 0 → Clear l
unfolding first
clear_first [] h e = tt
clear_first (c ∷ l) h e = go (clear_first l h.1) c.holds refl e
  where
    go : ((first l).number ≡ 0 → Clear l) → (b : Bool) → c.holds ≡ b → (cond b (at c.number c.place) (first l)).number ≡ 0 → (c.holds ≡ false) × Clear l
    go rest true q e = absurd (omega (arith, h.0, e))
    go rest false q e = (q, rest e)

pub accepted_clear : (s : List ℕ) → (verdict s).number ≡ 0 → Clear (checks s)
unfolding verdict
accepted_clear s e = clear_first (checks s) (numbered s) e

-- ---- a public call

-- what an outcome of these bytes is: refused as they are, or for want of room for this many bytes, or done
pub record Settles (s lent : List ℕ) (needed : ℕ) (o : Outcome) : Type 0 where
  pub done : Outcome
  pub number : done.answer.refusal ≡ 0
  pub place : done.answer.place ≡ 0
  pub when_refused : ((verdict s).number ≡ 0 → ⊥) → o ≡ refused (verdict s).number (verdict s).place 0 lent
  pub when_accepted : (verdict s).number ≡ 0 → o ≡ cond (ltb (length lent) needed) (refused 10 0 needed lent) done

-- the whole table, 1 to 10, in its order
pub table_of : List ℕ → List ℕ → ℕ → List Check
table_of s lent needed = checks s ++ (check 10 0 (ltb (length lent) needed) ∷ [])

module _ (s lent : List ℕ) (needed : ℕ) (o : Outcome) (k : Settles s lent needed o) where
  abbrev says : Outcome → Verdict
  says o = at o.answer.refusal o.answer.place

  refused_says : ((verdict s).number ≡ 0 → ⊥) → says o ≡ first (table_of s lent needed)
  unfolding table_of refused refusal verdict
  refused_says z = ap says (k.when_refused z) ∙ sym (first_kept (checks s) (check 10 0 (ltb (length lent) needed) ∷ []) (verdict s).number (verdict s).place z refl)

  by_room : (b : Bool) → says (cond b (refused 10 0 needed lent) k.done) ≡ first (check 10 0 b ∷ [])
  unfolding refused refusal first fine
  by_room true = refl
  by_room false = λ i. record { number = k.number i; place = k.place i }

  accepted_says : (verdict s).number ≡ 0 → says o ≡ first (table_of s lent needed)
  unfolding table_of
  accepted_says z =
      ap says (k.when_accepted z)
      ∙ by_room (ltb (length lent) needed)
      ∙ sym (first_after (checks s) (check 10 0 (ltb (length lent) needed) ∷ []) (accepted_clear s z))

  says_first : says o ≡ first (table_of s lent needed)
  says_first = split_eq (verdict s).number accepted_says refused_says

  settled_refuses : (number place : ℕ) → (number ≡ 0 → ⊥) → o.answer.refusal ≡ number → o.answer.place ≡ place → Refuses (table_of s lent needed) number place
  settled_refuses number place z e f =
      first_refuses (table_of s lent needed) number place z (sym says_first ∙ (λ i. record { number = e i; place = f i }))

  refuses_settled : (number place : ℕ) → Refuses (table_of s lent needed) number place → (o.answer.refusal ≡ number) × (o.answer.place ≡ place)
  refuses_settled number place r =
      let e : says o ≡ at number place = says_first ∙ refuses_first (table_of s lent needed) number place r in
      (ap (λ (v : Verdict). v.number) e, ap (λ (v : Verdict). v.place) e)

  settled_accepts : o.answer.refusal ≡ 0 → Clear (table_of s lent needed)
  unfolding table_of
  settled_accepts e =
      clear_first (table_of s lent needed)
      (numbered_join (checks s) (check 10 0 (ltb (length lent) needed) ∷ []) (numbered s) (omega arith, tt))
      (sym (ap (λ (v : Verdict). v.number) says_first) ∙ e)

  accepts_settled : Clear (table_of s lent needed) → o.answer.refusal ≡ 0
  unfolding fine
  accepts_settled c = ap (λ (v : Verdict). v.number) (says_first ∙ first_clear (table_of s lent needed) c)

  -- what is not refused is done
  settled_done : o.answer.refusal ≡ 0 → o ≡ k.done
  unfolding refused refusal
  settled_done e =
      split_eq (verdict s).number
      (λ z. go (ltb (length lent) needed) (k.when_accepted z))
      (λ z. absurd (z (sym (ap (λ (x : Outcome). x.answer.refusal) (k.when_refused z)) ∙ e)))
    where
      go : (b : Bool) → o ≡ cond b (refused 10 0 needed lent) k.done → o ≡ k.done
      go true q = absurd (let z : ◌≡◌ {A = ℕ} 10 0 = sym (ap (λ (x : Outcome). x.answer.refusal) q) ∙ e in omega arith)
      go false q = q

-- ---- reading and writing back
module _ (s lent : List ℕ) where
  pub lines : List Check
  lines = table_of s lent (length (written (graph_of (records s))))

  pub back_settles : Settles s lent (length (written (graph_of (records s)))) (write_back s lent)
  unfolding write_back back_of written_back
  back_settles =
      record {
        done = record {
          answer = written_back (length (written (graph_of (records s)))) (length (graph_of (records s)));
          lent = written (graph_of (records s)) ++ drop (length (written (graph_of (records s)))) lent;
        };
        number = refl;
        place = refl;
        when_refused = λ z. rw (ne_eqb (verdict s).number 0 z) refl;
        when_accepted = λ z. rw (eq-eqb (verdict s).number 0 z) refl;
      }

  -- THE THEOREM, both ways
  pub refuses_exactly : (number place : ℕ) → (number ≡ 0 → ⊥)
      → (write_back s lent).answer.refusal ≡ number → (write_back s lent).answer.place ≡ place → Refuses lines number place
  unfolding lines
  refuses_exactly = settled_refuses s lent (length (written (graph_of (records s)))) (write_back s lent) back_settles

  pub exactly_refuses : (number place : ℕ) → Refuses lines number place
      → ((write_back s lent).answer.refusal ≡ number) × ((write_back s lent).answer.place ≡ place)
  unfolding lines
  exactly_refuses = refuses_settled s lent (length (written (graph_of (records s)))) (write_back s lent) back_settles

  -- and nothing is refused exactly when no line holds
  pub accepts_exactly : (write_back s lent).answer.refusal ≡ 0 → Clear lines
  unfolding lines
  accepts_exactly = settled_accepts s lent (length (written (graph_of (records s)))) (write_back s lent) back_settles

  pub exactly_accepts : Clear lines → (write_back s lent).answer.refusal ≡ 0
  unfolding lines
  exactly_accepts = accepts_settled s lent (length (written (graph_of (records s)))) (write_back s lent) back_settles

-- ---- laying the blocks

-- the bytes that are to be written
pub laid_out : Bool → Bool → List ℕ → List ℕ
laid_out forwarding reorder s = let g = graph_of (records s) in laid_bytes (split_of forwarding reorder g) (layout forwarding reorder g)

module _ (forwarding reorder : Bool) (s lent : List ℕ) where
  pub layout_lines : List Check
  layout_lines = table_of s lent (length (laid_out forwarding reorder s))

  pub layout_settles : Settles s lent (length (laid_out forwarding reorder s)) (layout_blocks forwarding reorder s lent)
  unfolding layout_blocks layout_of laid laid_out
  layout_settles =
      record {
        done = record {
          answer = laid forwarding reorder (graph_of (records s)) (layout forwarding reorder (graph_of (records s))) (length (laid_out forwarding reorder s));
          lent = laid_out forwarding reorder s ++ drop (length (laid_out forwarding reorder s)) lent;
        };
        number = refl;
        place = refl;
        when_refused = λ z. rw (ne_eqb (verdict s).number 0 z) refl;
        when_accepted = λ z. rw (eq-eqb (verdict s).number 0 z) refl;
      }

  -- THE THEOREM, both ways
  pub layout_refuses_exactly : (number place : ℕ) → (number ≡ 0 → ⊥)
      → (layout_blocks forwarding reorder s lent).answer.refusal ≡ number → (layout_blocks forwarding reorder s lent).answer.place ≡ place
      → Refuses layout_lines number place
  unfolding layout_lines
  layout_refuses_exactly = settled_refuses s lent (length (laid_out forwarding reorder s)) (layout_blocks forwarding reorder s lent) layout_settles

  pub layout_exactly_refuses : (number place : ℕ) → Refuses layout_lines number place
      → ((layout_blocks forwarding reorder s lent).answer.refusal ≡ number) × ((layout_blocks forwarding reorder s lent).answer.place ≡ place)
  unfolding layout_lines
  layout_exactly_refuses = refuses_settled s lent (length (laid_out forwarding reorder s)) (layout_blocks forwarding reorder s lent) layout_settles

  pub layout_accepts_exactly : (layout_blocks forwarding reorder s lent).answer.refusal ≡ 0 → Clear layout_lines
  unfolding layout_lines
  layout_accepts_exactly = settled_accepts s lent (length (laid_out forwarding reorder s)) (layout_blocks forwarding reorder s lent) layout_settles

  pub layout_exactly_accepts : Clear layout_lines → (layout_blocks forwarding reorder s lent).answer.refusal ≡ 0
  unfolding layout_lines
  layout_exactly_accepts = accepts_settled s lent (length (laid_out forwarding reorder s)) (layout_blocks forwarding reorder s lent) layout_settles

  -- "Success gives place 0 and needed 0, writes the first bytes and keeps the rest."
  pub layout_writes : (layout_blocks forwarding reorder s lent).answer.refusal ≡ 0
      → layout_blocks forwarding reorder s lent
      ≡ record {
        answer = laid forwarding reorder (graph_of (records s)) (layout forwarding reorder (graph_of (records s))) (length (laid_out forwarding reorder s));
        lent = laid_out forwarding reorder s ++ drop (length (laid_out forwarding reorder s)) lent;
      }
  unfolding layout_settles
  layout_writes = settled_done s lent (length (laid_out forwarding reorder s)) (layout_blocks forwarding reorder s lent) layout_settles
