use Rattle.dd_quick.proofs.SharedOut.{shared, first-share}
use Rattle.dd_quick.proofs.sharing.share_out.Goals as goal

pub returns-clause-sum : goal.returns-clause-sum
returns-clause-sum c =
    let of = c.args.offers in
    shared of.spades.first of.hearts.first of.diamonds.first of.clubs.first
    of.spades.tricks of.hearts.tricks of.diamonds.tricks of.clubs.tricks c.args.need
    c.first_share-a.result c.first_share-b.result c.first_share-c.result c.first_share-d.result c.other_share-e.result c.other_share-f.result c.other_share-g.result c.other_share-h.result
    c.first_share-a.ensures c.first_share-b.ensures c.first_share-c.ensures c.first_share-d.ensures c.other_share-e.ensures c.other_share-f.ensures c.other_share-g.ensures c.other_share-h.ensures

pub returns-clause-first : goal.returns-clause-first
returns-clause-first c =
    let of = c.args.offers in
    first-share of.spades.first of.hearts.first of.diamonds.first of.clubs.first
    of.spades.tricks of.hearts.tricks of.diamonds.tricks of.clubs.tricks c.args.need
    c.first_share-a.result c.first_share-b.result c.first_share-c.result c.first_share-d.result c.other_share-e.result c.other_share-f.result c.other_share-g.result c.other_share-h.result
    c.first_share-a.ensures c.first_share-b.ensures c.first_share-c.ensures c.first_share-d.ensures
