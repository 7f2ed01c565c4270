-- What is held, and that there is room for one trace more. Assumes nothing.
use Prim.Native.Nat.{ℕ, zero, suc, ◌≤◌, ◌<◌}
use native.Mathlib.Omega.{arith}
use mathlib.Core.Path.{◌≡◌, refl, sym, ap, ap₂, ◌∙◌, subst}
use mathlib.Core.Bool.{not}
use mathlib.Core.Logic.{inl, inr, ⊎_elim}
use mathlib.Core.List.{List, [], ◌∷◌, ◌++◌, append_assoc, append-nil}
use lib.Dec.{T}
use lib.ListN.{length, get_or, take, take-append-drop, length-map}
use lib.Seq.{slice, take-take, get_or-take, length-take-le}
use Rattle.limits.specs.Limits.{numbers, blocks}
use Rattle.rules.specs.Lists.{concat, mem}
use Rattle.rules.specs.Graph.{Block, numbers_of}
use Rattle.rules.specs.Traces.{Traced}
use Rattle.rules.proofs.Membership.{In, mem→, test}
use Rattle.rules.proofs.Counting.{Once, count, In→count, count→In, count_zero, fresh, no_longer}
use Rattle.rules.proofs.TracesOnce.{Good}
use Rattle.records.specs.declared.Graph.{Graph}
use Rattle.records.specs.Tables.{tabled, Carried}
use Rattle.records.proofs.StandLaws.{once_apart}
use Rattle.records.proofs.TableLaws.{up_to_length}
use Rattle.flow.specs.Lent.{Of, Marks}
use Rattle.flow.proofs.PartLaws.{get_in}
use Rattle.flow.proofs.SoundLaws.{small}
use Rattle.seeds.specs.Reached.{Reached}
use Rattle.connect.specs.Joined.{begin_of, end_of, traces_in, all_blocks, Joinable}
use Rattle.connect.proofs.TraceLaws.{ends_many}
use Rattle.traces.specs.declared.Growth.{Growth}
use Rattle.traces.specs.Held.{Held, Free}
use Rattle.traces.specs.Growing.{start_of}

-- ---- all traces together
pub concat_both : (a b : List (List ℕ)) → concat (a ++ b) ≡ concat a ++ concat b
unfolding concat
concat_both [] b = refl
concat_both (x ∷ a) b = ap (λ (l : List ℕ). x ++ l) (concat_both a b) ∙ sym (append_assoc x (concat a) (concat b))

module _ (order ends : List ℕ) (found : ℕ) (rising : (k : ℕ) → k < found → begin_of ends k < end_of ends k) where
  together : (k : ℕ) → k ≤ found → concat (traces_in order ends k) ≡ take (begin_of ends k) order
  unfolding traces_in begin_of concat
  together zero h = refl
  together (suc k) h =
      concat_both (traces_in order ends k) (slice (begin_of ends k) (end_of ends k) order ∷ [])
      ∙ ap₂ (λ (a b : List ℕ). a ++ b) (together k (omega (arith, h))) (append-nil (slice (begin_of ends k) (end_of ends k) order))
      ∙ ap (λ (l : List ℕ). l ++ slice (begin_of ends k) (end_of ends k) order) (sym (take-take (begin_of ends k) (end_of ends k) order (omega (arith, rising k (omega (arith, h))))))
      ∙ take-append-drop (begin_of ends k) (take (end_of ends k) order)

  -- the traces are what stands before the last one's end
  pub all_together : concat (traces_in order ends found) ≡ take (begin_of ends found) order
  all_together = together found (omega arith)

-- ---- what is held
-- block `from` can be laid, at place `start`
pub record Ready (t : Graph) (s : Traced) (from start : ℕ) (seen reached : List ℕ) : Type 0 where
  pub laid_is : Marks seen s.laid
  pub reached_is : Reached t s.laid reached
  pub once : Once s.laid
  pub own : (n : ℕ) → In n s.laid → Of t n
  pub long : length s.laid ≡ start
  pub block : Of t from
  pub new : T (not (mem from s.laid))

module _ {t : Graph} (l : Carried t) where
  pub once_listed : Once (numbers_of (tabled t))
  unfolding tabled
  once_listed = once_apart t.b t.a t.blocks l.stands.once

  pub few_blocks : length (numbers_of (tabled t)) ≤ numbers
  unfolding tabled numbers_of
  few_blocks = omega (arith, length-map (tabled t) (λ (b : Block). b.number), up_to_length t.b t.a t.blocks, l.stands.few)

  -- no list of blocks of t, each once, is longer
  pub no_more : (k : List ℕ) → Once k → ((m : ℕ) → In m k → Of t m) → length k ≤ length (numbers_of (tabled t))
  no_more k o own = no_longer k (numbers_of (tabled t)) fewer
    where
      fewer : (m : ℕ) → count m k ≤ count m (numbers_of (tabled t))
      fewer m = ⊎_elim (λ y. omega (arith, o m, In→count m (numbers_of (tabled t)) (own m (mem→ m k y)))) (λ z. omega (arith, count_zero m k z)) (test (mem m k))

  module _ (s : Traced) (w : Growth) (h : Held t s w) where
    good : Good (tabled t) l.whole once_listed s
    good = h.good l.whole once_listed

    -- what stands before the last one's end is what is laid
    laid_count : (m : ℕ) → count m (all_blocks w.made) ≡ count m s.laid
    laid_count m = ap (count m) (sym (all_together w.made.order w.made.ends w.made.len h.rising) ∙ ap concat h.found_is) ∙ good.even m

    pub laid_own : (m : ℕ) → In m (all_blocks w.made) → Of t m
    laid_own m i = good.sub m (count→In m s.laid (omega (arith, laid_count m, In→count m (all_blocks w.made) i)))

    begin_few : start_of w ≤ numbers
    begin_few = omega (arith, h.long, no_more s.laid good.once good.sub, few_blocks)

    laid_low : (i : ℕ) → i < start_of w → get_or w.made.order i 0 < blocks
    laid_low i k =
        let long : length (all_blocks w.made) ≡ start_of w = length-take-le (start_of w) w.made.order (omega (arith, h.order_sized, begin_few)) in
        let m = small l (get_or (all_blocks w.made) i 0) (laid_own _ (get_in (all_blocks w.made) i (omega (arith, k, long)))) in
        omega (arith, m, get_or-take (start_of w) w.made.order i 0 k)

    -- they can be joined
    pub joinable : Joinable w.made
    joinable = record { rising = h.rising; last = begin_few; low = laid_low; once = λ m. omega (arith, laid_count m, good.once m) }

    -- with a block that is free there is room for one trace more
    module _ (from : ℕ) (f : Free t s from) where
      pub ready : Ready t s from (start_of w) w.seen w.reached
      ready = record {
        laid_is = h.laid_is;
        reached_is = h.reached_is;
        once = good.once;
        own = good.sub;
        long = sym h.long;
        block = f.block;
        new = f.new;
      }

      all_own : (m : ℕ) → In m (from ∷ s.laid) → Of t m
      all_own m (inl q) = subst (Of t) (sym q) f.block
      all_own m (inr j) = good.sub m j

      pub found_few : w.made.len < numbers
      found_few =
          omega (arith, ends_many w.made.ends w.made.len h.rising, h.long, few_blocks, no_more (from ∷ s.laid) (fresh from s.laid good.once f.new) all_own)
