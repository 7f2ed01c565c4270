-- `listing::put_block` meets its contract: its four words in turn.
use Rattle.std.proofs.Common.{arith, length, ◌≤◌}
use Rattle.listing.proofs.PutLaws.{put_then, put_same}
use Rattle.listing.proofs.LineLaws.{front_is}
use Rattle.listing.proofs.put_block.Goals as goal

pub returns : goal.returns
returns c =
    let x = c.args in
    let h : x.text.now.len ≤ length x.text.now.out.now = omega arith in
    put_same (front_is x.place x.number x.weight)
    (put_then h (put_then h (put_then h c.put_number.ensures c.put_letter.ensures) c.put_number-2.ensures) c.put_number-3.ensures)
