-- What is known of spans as blocks are laid and raised. Assumes nothing.
use Prim.Native.Nat.{ℕ, ◌<◌}
use native.Mathlib.Omega.{arith}
use mathlib.Core.Path.{◌≡◌, refl, sym, ◌∙◌, subst}
use mathlib.Core.List.{List}
use Rattle.std.specs.Prelude.{Option, None, set}
use lib.ListN.{length, get_or, length-set}
use lib.Seq.{get_or-set_same, get_or-set_other}
use Rattle.seeds.proofs.ReachedLaws.{entries_same}
use Rattle.lists.proofs.Choices.{split_lt}
use Rattle.records.specs.declared.Arms.{Arms}
use Rattle.records.specs.Tables.{Has}
use Rattle.seeds.specs.Reached.{Entries}
use Rattle.scans.specs.declared.spans.Spans.{Spans}
use Rattle.scans.specs.Spans.{spans, span_of, with_known, Known, Forgets, Forgotten}

pub split_same : {X : Type 0} (a b : ℕ) → (a ≡ b → X) → ((a ≡ b → ⊥) → X) → X
split_same a b f g = split_lt a b (λ h. g (λ e. omega (arith, h, e))) (λ h. split_lt b a (λ k. g (λ e. omega (arith, k, e))) (λ k. f (omega (arith, h, k))))

-- what is known of s' is known of s
pub record Fewer (s s' : Spans) : Type 0 where
  pub long : length s'.known ≡ spans
  pub rest : s' ≡ with_known s s'.known
  pub same : (g : ℕ) (o : Option ℕ) → Known s' g o → Known s g o

module _ (s s' : Spans) (f : Fewer s s') (n : ℕ) where
  -- a span is forgotten
  pub forgot_now : Forgotten (with_known s' (set s'.known (span_of s' n) None)) n
  forgot_now = get_or-set_same s'.known (span_of s' n) None None (omega (arith, f.long))

  pub forgot_still : (m : ℕ) → Forgotten s' m → Forgotten (with_known s' (set s'.known (span_of s' n) None)) m
  forgot_still m h = split_same (span_of s' m) (span_of s' n)
      (λ e. rw e forgot_now)
      (λ e. get_or-set_other s'.known (span_of s' n) (span_of s' m) None None e ∙ h)

  pub fewer_more : Fewer s (with_known s' (set s'.known (span_of s' n) None))
  fewer_more = record {
    long = length-set s'.known (span_of s' n) None ∙ f.long;
    rest = rw f.rest refl;
    same = λ g o k. split_same g (span_of s' n)
        (λ e. let z : get_or (set s'.known (span_of s' n) None) g None ≡ None = rw e forgot_now in absurd (cc))
        (λ e. f.same g o (sym (get_or-set_other s'.known (span_of s' n) g None None e) ∙ k));
  }

-- block n is laid: what its arms raise is forgotten before, and it is now
module _ (s s' : Spans) (f : Fewer s s') (n : ℕ) (a : Arms) (before after : List ℕ) (v : Entries a n before after)
    (raised : (q : ℕ) → Has a n q → get_or before (get_or a.to q 0) 0 < get_or a.weight q 0 → Forgotten s' (get_or a.to q 0)) where
  pub forgets_all : Forgets s before (with_known s' (set s'.known (span_of s' n) None)) after × Forgotten (with_known s' (set s'.known (span_of s' n) None)) n
  forgets_all = (
    record {
      rest = (fewer_more s s' f n).rest;
      same = (fewer_more s s' f n).same;
      kept = λ m o k. entries_same a n before after v m (λ q h e.
          split_lt (get_or before m 0) (get_or a.weight q 0)
          (λ l. let z = forgot_still s s' f n m (subst (λ (x : ℕ). Forgotten s' x) e (raised q h (rw e l))) in absurd (cc)) (λ l. l));
    },
    forgot_now s s' f n,
  )
