use Rattle.std.proofs.Common.{◌≡◌, ◌∙◌, sym, ap, List, []}
use Rattle.std.specs.Prelude.{filter}
use Rattle.dd_cards.specs.declared.strain.Strain.{Strain}
use Rattle.dd_cards.specs.PlayingCard.{PlayingCard}
use Rattle.dd_cards.specs.Cards.{is_of}
use Rattle.dd_play.specs.Tricks.{is_trump, or_else}
use Rattle.dd_relative.proofs.Winners.{no-trumps}
use Rattle.dd_relative.proofs.winning_card.deciding.Goals as goal

pub returns-in-Notrump : goal.returns-in-Notrump
returns-in-Notrump c =
    let none : filter (is_trump c.args.strain) c.args.trick ≡ [] = ap (λ (s : Strain). filter (is_trump s) c.args.trick) c.in-Notrump.is ∙ no-trumps c.args.trick in
    c.of_suit_at-followed.ensures ∙ ap (λ (l : List PlayingCard). or_else l (filter (is_of c.args.led.suit) c.args.trick)) (sym none)
