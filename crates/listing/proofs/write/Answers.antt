-- `listing::write` meets its contract: the lines of the places, and behind them the last line.
use Rattle.std.proofs.Common.{arith, refl, sym, rules}
use Rattle.listing.proofs.PutLaws.{put_then, put_same, put_front}
use Rattle.listing.proofs.ListingLaws.{listing_is}
use Rattle.listing.proofs.write.Goals as goal

pub returns : goal.returns
returns c w =
    let all = put_then (omega arith) c.put_places.ensures.put c.put_split.ensures in
    put_front (put_same (listing_is c.args.l.now c.args.heads.now c.args.loops.now w) all) refl refl (search (rules, sym all.same))
