-- The table of the traces by their first blocks, trace by trace. Assumes nothing.
use Prim.Native.Nat.{ℕ, zero, suc, ◌+◌, ◌≤◌, ◌<◌}
use native.Mathlib.Numerals.{add-one}
use native.Mathlib.Omega.{arith}
use mathlib.Core.Path.{◌≡◌, refl, sym, ap, ◌∙◌, subst}
use mathlib.Core.Bool.{Bool, true, false, cond}
use mathlib.Core.List.{List, [], ◌∷◌, ◌++◌}
use Rattle.std.specs.Prelude.{Option, None, Some}
use lib.Dec.{eqb, eqb_refl}
use lib.ListN.{length, get_or, set, replicate, length-set, length-replicate}
use lib.Seq.{slice, get_or-set_same, get_or-set_other, get_or-take, length-slice, length-take-le}
use borrow.Author.Tests.{eq-eqb, ne_eqb, eqb-true, eqb-false}
use Rattle.limits.specs.Limits.{blocks}
use Rattle.lists.proofs.Choices.{cond_elim}
use Rattle.rules.specs.Lists.{first_or}
use Rattle.rules.specs.Join.{Link, starting_at}
use Rattle.rules.proofs.Membership.{In, T→≡}
use Rattle.rules.proofs.Counting.{one, tally, count, Once, In→count}
use Rattle.flow.proofs.PartLaws.{get_in}
use Rattle.connect.specs.declared.Traces.{Traces}
use Rattle.connect.specs.Joined.{begin_of, end_of, traces_in, all_blocks, Joinable}
use Rattle.connect.specs.Links.{start_by, Starts}
use Rattle.connect.specs.Following.{Heads}
use Rattle.connect.proofs.TraceLaws.{ends_low, first_of, traces_many}

-- ---- what stands twice
-- no number stands at two places
once_apart : (l : List ℕ) (i j : ℕ) → Once l → i < j → j < length l → get_or l i 0 ≡ get_or l j 0 → ⊥
unfolding count tally
once_apart [] i j o h k e = omega (arith, k)
once_apart (x ∷ l) i zero o h k e = omega (arith, h)
once_apart (x ∷ l) zero (suc j) o h k e =
    omega (arith, o x, ap one (T→≡ (eqb x x) (eqb_refl x)), In→count x l (subst (λ (y : ℕ). In y l) (sym e) (get_in l j (omega (arith, k)))))
once_apart (x ∷ l) (suc i) (suc j) o h k e = once_apart l i j (λ m. omega (arith, o m)) (omega (arith, h)) (omega (arith, k)) e

-- ---- one trace more
-- a trace by its length and its index
abbrev starter : ℕ → ℕ → Link
starter n i = record { weight = 0; long = n; index = i }

after : Option Link → Option Link → Option Link
after None x = x
after (Some k) x = Some k

starting_more : (n i : ℕ) (ts : List (List ℕ)) (t : List ℕ) →
    starting_at n i (ts ++ (t ∷ [])) ≡ after (starting_at n i ts) (cond (eqb (first_or blocks t) n) (Some (starter (length t) (i + length ts))) None)
unfolding starting_at after
starting_more n i [] t = let e : i ≡ i + 0 = omega arith in go (eqb (first_or blocks t) n) e
  where
    go : (b : Bool) → i ≡ i + 0 → (elim b as (λ (x : Bool). Option Link) [ true ↦ Some (starter (length t) i) | false ↦ None ]) ≡ cond b (Some (starter (length t) (i + 0))) None
    go true e = ap (λ (k : ℕ). Some (starter (length t) k)) e
    go false e = refl
starting_more n i (s ∷ ts) t = let e : i + 1 + length ts ≡ i + suc (length ts) = omega arith in go (eqb (first_or blocks s) n) (starting_more n (i + 1) ts t) e
  where
    new : ℕ → Option Link
    new k = cond (eqb (first_or blocks t) n) (Some (starter (length t) k)) None

    go : (b : Bool) → starting_at n (i + 1) (ts ++ (t ∷ [])) ≡ after (starting_at n (i + 1) ts) (new (i + 1 + length ts)) → i + 1 + length ts ≡ i + suc (length ts) →
        (elim b as (λ (x : Bool). Option Link) [ true ↦ Some (starter (length s) i) | false ↦ starting_at n (i + 1) (ts ++ (t ∷ [])) ])
        ≡ after (elim b as (λ (x : Bool). Option Link) [ true ↦ Some (starter (length s) i) | false ↦ starting_at n (i + 1) ts ]) (new (i + suc (length ts)))
    go true ih e = refl
    go false ih e = ih ∙ ap (λ (k : ℕ). after (starting_at n (i + 1) ts) (new k)) e

-- ---- the table, when it has the first k traces
no_entry : (n k : ℕ) → ◌≡◌ {A = Option ℕ} (get_or (replicate n None) k None) None
no_entry zero k = refl
no_entry (suc n) zero = refl
no_entry (suc n) (suc k) = no_entry n k

entry_set : (l : List (Option ℕ)) (i : ℕ) (v : Option ℕ) (k : ℕ) → i < length l → get_or (set l i v) k None ≡ cond (eqb k i) v (get_or l k None)
entry_set l i v k h =
    cond_elim (λ (x : Option ℕ). get_or (set l i v) k None ≡ x) (eqb k i) v (get_or l k None)
    (λ e. ap (λ (n : ℕ). get_or (set l i v) n None) (eqb-true k i e) ∙ get_or-set_same l i v None h)
    (λ e. get_or-set_other l i k v None (eqb-false k i e))

module _ (f : Traces) where
  -- the trace of index j starts at block n
  pub record At (n j k : ℕ) : Type 0 where
    pub earlier : j < k
    pub first : get_or f.order (begin_of f.ends j) 0 ≡ n

  pub record Heading (k : ℕ) (head : List (Option ℕ)) : Type 0 where
    pub long : length head ≡ blocks
    pub at : (n j : ℕ) → get_or head n None ≡ Some j → At n j k
    pub starts : Starts (traces_in f.order f.ends k) f.ends head

  pub no_heads : Heading 0 (replicate blocks None)
  unfolding traces_in starting_at start_by
  no_heads = record {
    long = length-replicate {A = Option ℕ} blocks None;
    at = λ n j e. absurd (let z : ◌≡◌ {A = Option ℕ} (Some j) None = sym e ∙ no_entry blocks n in let y : ◌≡◌ {A = ℕ} 0 1 = cc in omega arith);
    starts = λ n. sym (ap (start_by f.ends) (no_entry blocks n));
  }

  module _ (h : Joinable f) (sized : length f.order ≡ blocks) (k : ℕ) (l : k < f.len) where
    -- where it begins
    pub begin_low : begin_of f.ends k < begin_of f.ends f.len
    begin_low = omega (arith, h.rising k l, ends_low f.ends f.len h.rising k l)

    pub first_low : get_or f.order (begin_of f.ends k) 0 < blocks
    first_low = h.low (begin_of f.ends k) begin_low

    -- an earlier one starts elsewhere
    apart : (j : ℕ) → j < k → get_or f.order (begin_of f.ends j) 0 ≡ get_or f.order (begin_of f.ends k) 0 → ⊥
    apart j i e =
        let up : begin_of f.ends j < begin_of f.ends k = omega (arith, h.rising j (omega (arith, i, l)), ends_low f.ends k (λ m u. h.rising m (omega (arith, u, l))) j i) in
        let all = begin_of f.ends f.len in
        once_apart (all_blocks f) (begin_of f.ends j) (begin_of f.ends k) h.once up (omega (arith, length-take-le all f.order (omega (arith, h.last, sized)), begin_low))
        (get_or-take all f.order (begin_of f.ends j) 0 (omega (arith, up, begin_low)) ∙ e ∙ sym (get_or-take all f.order (begin_of f.ends k) 0 begin_low))

    module _ (head : List (Option ℕ)) (s : Heading k head) where
      m : ℕ
      m = get_or f.order (begin_of f.ends k) 0

      -- no trace so far starts there
      none_yet : get_or head m None ≡ None
      unfolding m
      none_yet = go (get_or head m None) refl
        where
          go : (x : Option ℕ) → get_or head m None ≡ x → x ≡ None
          go None e = refl
          go (Some j) e = let v = s.at m j e in absurd (apart j v.earlier v.first)

      trace : List ℕ
      trace = slice (begin_of f.ends k) (end_of f.ends k) f.order

      fits : end_of f.ends k ≤ length f.order
      fits = omega (arith, ends_low f.ends f.len h.rising k l, h.last, sized)

      keeps : (x : Option ℕ) → after (start_by f.ends x) None ≡ start_by f.ends x
      unfolding after start_by
      keeps None = refl
      keeps (Some x) = refl

      new_link : ◌≡◌ {A = Option Link} (Some (starter (length trace) (0 + length (traces_in f.order f.ends k)))) (start_by f.ends (Some k))
      unfolding start_by trace
      new_link =
          let e : 0 + length (traces_in f.order f.ends k) ≡ k = omega (arith, traces_many f.order f.ends k) in
          rw (length-slice (begin_of f.ends k) (end_of f.ends k) f.order fits, e) refl

      first_is : first_or blocks trace ≡ m
      unfolding m trace
      first_is = first_of blocks f.order (begin_of f.ends k) (end_of f.ends k) (h.rising k l) fits

      starts_more : (n : ℕ) → starting_at n 0 (traces_in f.order f.ends k ++ (trace ∷ [])) ≡ start_by f.ends (cond (eqb n m) (Some k) (get_or head n None))
      unfolding after start_by
      starts_more n = starting_more n 0 (traces_in f.order f.ends k) trace ∙ go (eqb n m) refl
        where
          new : Bool → Option Link
          new b = cond b (Some (starter (length trace) (0 + length (traces_in f.order f.ends k)))) None

          go : (b : Bool) → eqb n m ≡ b → after (starting_at n 0 (traces_in f.order f.ends k)) (new (eqb (first_or blocks trace) n)) ≡ start_by f.ends (cond b (Some k) (get_or head n None))
          go true e =
              let z : n ≡ m = eqb-true n m e in
              ap (λ (x : Option Link). after x (new (eqb (first_or blocks trace) n))) (s.starts n ∙ ap (λ (x : ℕ). start_by f.ends (get_or head x None)) z ∙ ap (start_by f.ends) none_yet)
              ∙ ap new (eq-eqb (first_or blocks trace) n (first_is ∙ sym z)) ∙ new_link
          go false e =
              ap (λ (x : Option Link). after x (new (eqb (first_or blocks trace) n))) (s.starts n)
              ∙ ap (λ (b : Bool). after (start_by f.ends (get_or head n None)) (new b)) (ne_eqb (first_or blocks trace) n (λ z. eqb-false n m e (sym z ∙ first_is)))
              ∙ keeps (get_or head n None)

      at_more : (n j : ℕ) → cond (eqb n m) (Some k) (get_or head n None) ≡ Some j → At n j (suc k)
      unfolding m
      at_more n j e = go (eqb n m) refl e
        where
          go : (b : Bool) → eqb n m ≡ b → cond b (Some k) (get_or head n None) ≡ Some j → At n j (suc k)
          go true z e =
              let q : k ≡ j = cc in
              record { earlier = omega (arith, q); first = subst (λ (i : ℕ). get_or f.order (begin_of f.ends i) 0 ≡ n) q (sym (eqb-true n m z)) }
          go false z e = let v = s.at n j e in record { earlier = omega (arith, v.earlier); first = v.first }

      pub one_more : Heading (k + 1) (set head (get_or f.order (begin_of f.ends k) 0) (Some k))
      unfolding traces_in trace m
      one_more =
          let more = λ (n : ℕ). entry_set head m (Some k) n (omega (arith, first_low, s.long)) in
          rw (add-one k)
          (record {
            long = length-set head m (Some k) ∙ s.long;
            at = λ n j e. at_more n j (sym (more n) ∙ e);
            starts = λ n. starts_more n ∙ sym (ap (start_by f.ends) (more n));
          })

  -- when it has them all
  pub all_heads : (head : List (Option ℕ)) → Heading f.len head → Heads f head
  all_heads head s = record { below = λ n k e. (s.at n k e).earlier; starts = s.starts }

pub ruleset begins_low = (begin_low, first_low)
