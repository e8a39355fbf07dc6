use Rattle.std.proofs.Common.{refl}
use Rattle.json.specs.Lex.{fresh, after_value, after_comma}
use Rattle.dd_wire.proofs.UsualValues.{array-is, items-more, items-comma, items-end}
use Rattle.dd_wire.proofs.usual_reader.read_table.Goals as goal

pub returns : goal.returns
returns c =
    array-is c.in_ok-opened.ensures
    (items-more fresh refl c.in_ok-spades.ensures (items-comma c.in_ok-after_comma.ensures
    (items-more after_comma refl c.in_ok-hearts.ensures (items-comma c.in_ok-after_comma-2.ensures
    (items-more after_comma refl c.in_ok-diamonds.ensures (items-comma c.in_ok-after_comma-3.ensures
    (items-more after_comma refl c.in_ok-clubs.ensures (items-comma c.in_ok-after_comma-4.ensures
    (items-more after_comma refl c.in_ok-notrump.ensures (items-end after_value refl c.in_ok-closed.ensures))))))))))
