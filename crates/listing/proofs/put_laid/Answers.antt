-- `listing::put_laid` meets its contract: its four words in turn.
use Rattle.std.proofs.Common.{arith, length, ◌≤◌, ap, Bool, ◌++◌, ◌∷◌, []}
use Rattle.rules.specs.Listing.{space, letter}
use Rattle.listing.proofs.PutLaws.{put_then, put_same}
use Rattle.listing.proofs.LineLaws.{back_is}
use Rattle.listing.proofs.put_laid.Goals as goal

pub returns : goal.returns
returns c =
    let x = c.args in
    let h : x.text.now.len ≤ length x.text.now.out.now = omega arith in
    let e = ap (λ (b : Bool). letter b 67 87 ++ (space ∷ [])) c.is_cold.ensures in
    put_same (back_is x.marks x.exit x.head x.in_loop)
    (put_then h (put_then h (put_then h (put_same e c.put_letter.ensures) c.put_letter-2.ensures) c.put_letter-3.ensures) c.put_number.ensures)
