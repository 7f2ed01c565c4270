-- The records of the places, one more at a time, and that they are the rule's. Assumes nothing.
use Rattle.std.proofs.Common.{ℕ, zero, suc, ◌+◌, ◌-◌, ◌*◌, ◌≤◌, ◌<◌, ◌≡◌, List, [], ◌∷◌, ◌++◌, length, get_or, take, drop, refl, sym, ap, ◌∙◌, arith, add-zero, add-one, append_assoc, append-nil, length-append}
use Rattle.limits.specs.Limits.{size}
use Rattle.lists.specs.Behind.{behind}
use Rattle.lists.proofs.Parts.{fill_more, behind_front}
use Rattle.rules.specs.Graph as graph
use Rattle.rules.specs.Records.{fields, block_bytes, blocks_bytes, arms_bytes, written}
use Rattle.rules.specs.Within.{arm_total}
use Rattle.rules.specs.Exits.{Place}
use Rattle.rules.specs.Laid.{place_bytes, places_bytes, laid_bytes}
use Rattle.rules.proofs.LaidLength.{laid_length}
use Rattle.records.specs.Tables.{block_at, tabled}
use Rattle.records.proofs.TableLaws.{up_to_length}
use Rattle.exits.specs.declared.Laid.{Laid}
use Rattle.exits.specs.Lays.{split_number, place_at, places_to, places_of}
use Rattle.exits.proofs.Finished.{places_graph}
use Rattle.laid.specs.Written.{record_of, records_to, laid_file, HeadsOf}

module _ (l : Laid) (heads : List ℕ) where
  record_length : (i : ℕ) → length (record_of l heads i) ≡ size
  unfolding record_of fields
  record_length i = refl

  pub records_length : (i : ℕ) → length (records_to l heads i) ≡ size * i
  unfolding records_to
  records_length zero = refl
  records_length (suc i) = length-append (records_to l heads i) (record_of l heads i) ∙ omega (arith, records_length i, record_length i)

  pub records_turn : (d o ys : List ℕ) (i : ℕ) → o ≡ records_to l heads i ++ drop (size * i) d → ys ≡ record_of l heads i
      → take (size * i) o ++ (ys ++ drop (size * i + size - size * i) (drop (size * i) o)) ≡ records_to l heads (i + 1) ++ drop (size * (i + 1)) d
  unfolding records_to
  records_turn d o ys i e y =
      let k : size * i + size ≡ size * (i + 1) = omega arith in
      let m : records_to l heads i ++ ys ≡ records_to l heads (i + 1) = ap (λ (s : List ℕ). records_to l heads i ++ s) y ∙ ap (records_to l heads) (sym (add-one i)) in
      fill_more (records_to l heads i) ys d o (size * i) size (records_length i) e
      ∙ ap (λ (n : ℕ). (records_to l heads i ++ ys) ++ drop n d) k
      ∙ ap (λ (s : List ℕ). s ++ drop (size * (i + 1)) d) m

-- ---- by the rule
places_append : (g : graph.Graph) (split i : ℕ) (s t : List Place) → places_bytes g split i (s ++ t) ≡ places_bytes g split i s ++ places_bytes g split (i + length s) t
unfolding places_bytes
places_append g split i [] t = rw add-zero
places_append g split i (p ∷ s) t =
    let e : suc i + length s ≡ i + suc (length s) = omega arith in
    ap (λ (l : List ℕ). place_bytes g split i p ++ l) (places_append g split (suc i) s t)
    ∙ sym (append_assoc (place_bytes g split i p) (places_bytes g split (suc i) s) (places_bytes g split (suc i + length s) t))
    ∙ ap (λ (n : ℕ). (place_bytes g split i p ++ places_bytes g split (suc i) s) ++ places_bytes g split n t) e

blocks_length : (g : graph.Graph) → length (blocks_bytes g) ≡ size * length g
unfolding blocks_bytes block_bytes fields
blocks_length [] = refl
blocks_length (b ∷ g) = length-append (block_bytes b) (blocks_bytes g) ∙ omega (arith, blocks_length g)

module _ (l : Laid) (heads : List ℕ) (h : HeadsOf l heads) where
  abbrev places : ℕ → List Place
  places = places_to l.graph.b l.graph.a l.exits

  abbrev place : ℕ → Place
  place i = place_at l.graph.b l.graph.a l.exits (get_or l.graph.b.listed i 0)

  places_long : (p : ℕ) → length (places p) ≡ p
  unfolding places_to
  places_long zero = refl
  places_long (suc p) = length-append (places p) (place p ∷ []) ∙ omega (arith, places_long p)

  place_record : (i : ℕ) → i < l.graph.blocks → place_bytes (tabled l.graph) (split_number l.split) i (place i) ≡ record_of l heads i
  unfolding place_bytes record_of place_at block_at
  place_record i k = rw (← h i k)

  places_records : (n : ℕ) → n ≤ l.graph.blocks → places_bytes (tabled l.graph) (split_number l.split) 0 (places n) ≡ records_to l heads n
  unfolding places_to places_bytes records_to
  places_records zero k = refl
  places_records (suc n) k =
      let g = tabled l.graph in
      let s = split_number l.split in
      let e : 0 + length (places n) ≡ n = omega (arith, places_long n) in
      places_append g s 0 (places n) (place n ∷ [])
      ∙ ap (λ (i : ℕ). places_bytes g s 0 (places n) ++ (place_bytes g s i (place n) ++ [])) e
      ∙ ap (λ (x : List ℕ). x ++ (place_bytes g s n (place n) ++ [])) (places_records n (omega (arith, k)))
      ∙ ap (λ (x : List ℕ). records_to l heads n ++ x) (append-nil (place_bytes g s n (place n)) ∙ place_record n (omega (arith, k)))

  -- the whole file
  laid_parts : laid_file l ≡ records_to l heads l.graph.blocks ++ arms_bytes (tabled l.graph)
  unfolding laid_bytes tabled
  laid_parts = rw (places_graph l.graph.b l.graph.a l.exits l.graph.blocks) (ap (λ (x : List ℕ). x ++ arms_bytes (tabled l.graph)) (places_records l.graph.blocks (omega arith)))

  -- the places are written, and then the arms behind them
  pub both_parts : (d o : List ℕ) → o ≡ records_to l heads l.graph.blocks ++ drop (size * l.graph.blocks) d →
      behind (size * l.graph.blocks) (arms_bytes (tabled l.graph)) o ≡ laid_file l ++ drop (length (laid_file l)) d
  both_parts d o e =
      ap (behind (size * l.graph.blocks) (arms_bytes (tabled l.graph))) e
      ∙ behind_front (records_to l heads l.graph.blocks) (arms_bytes (tabled l.graph)) d (size * l.graph.blocks) (records_length l heads l.graph.blocks)
      ∙ ap (λ (x : List ℕ). x ++ drop (length x) d) (sym laid_parts)

  -- as many bytes as the laid graph's own file has
  arms_size : length (arms_bytes (tabled l.graph)) ≡ size * arm_total (tabled l.graph)
  unfolding tabled
  arms_size =
      omega (
        arith,
        ap length laid_parts,
        length-append (records_to l heads l.graph.blocks) (arms_bytes (tabled l.graph)),
        records_length l heads l.graph.blocks,
        laid_length (split_number l.split) (places_of l),
        places_long l.graph.blocks,
        ap arm_total (places_graph l.graph.b l.graph.a l.exits l.graph.blocks),
      )

  pub written_size : length (written (tabled l.graph)) ≡ size * (l.graph.blocks + arm_total (tabled l.graph))
  unfolding written tabled
  written_size =
      length-append (blocks_bytes (tabled l.graph)) (arms_bytes (tabled l.graph))
      ∙ omega (arith, blocks_length (tabled l.graph), up_to_length l.graph.b l.graph.a l.graph.blocks, arms_size)
