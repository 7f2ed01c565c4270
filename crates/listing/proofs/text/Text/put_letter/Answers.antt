-- `Text::put_letter` meets its contract: the letter, and behind it a space.
use Rattle.std.proofs.Common.{ℕ, ◌≡◌, ◌∷◌, [], cond, ap}
use Rattle.rules.specs.Listing.{space, letter}
use Rattle.listing.proofs.PutLaws.{put_same}
use Rattle.listing.proofs.text.Text.put_letter.Goals as goal
use Rattle.listing.proofs.text.Text.put_letter.Goals.{then-c, else-c}

pub returns : goal.returns
unfolding letter
returns c =
    let v = c.if-c in
    let x = c.args in
    let e : v.put_word ≡ cond x.c x.x x.y = elim v.branch [ then-c w ↦ rw w.if-c.true w.put_word-is | else-c w ↦ rw w.if-c.false w.put_word-is ] in
    put_same (ap (λ (b : ℕ). b ∷ space ∷ []) e) c.put_word.ensures
