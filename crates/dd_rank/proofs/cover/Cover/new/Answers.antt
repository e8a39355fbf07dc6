use Rattle.std.proofs.Common.{◌≤◌, arith, ap, ◌∙◌}
use Rattle.dd_cards.specs.declared.suit.Suit.{Suit}
use Rattle.dd_cards.specs.declared.suit.Suit.TheVariants.{Spades, Hearts, Diamonds, Clubs}
use Rattle.std.proofs.Common.{◌≡◌, ℕ}
use Rattle.dd_play.specs.Board.{Board, IsBoard}
use Rattle.dd_play.specs.Covers.{count_of}
use Rattle.dd_rank.specs.Depths.{all_cards, FourDepths, depth_in}
use Rattle.dd_rank.specs.Strings.{Strings, string_in}
use Rattle.dd_rank.proofs.Packed.{new-packed}
use Rattle.dd_rank.proofs.Standing.{count-small}
use Rattle.dd_rank.proofs.cover.Cover.new.Goals as goal

-- a depth within the number of the suit's cards is at most thirteen
small : (p : Board) (d : FourDepths) (u : Suit) (n : ℕ) → IsBoard p → ((u : Suit) → depth_in d u ≤ count_of u (all_cards p)) → n ≡ depth_in d u → n ≤ 13
small p d u n valid within e = (let c = count-small p valid u in let w = within u in omega (arith, c, w, e))

pub of-requires-2 : goal.of-requires-2
of-requires-2 c = small c.args.start.now c.args.depths Spades c.of.result c.copy.ensures.board c.requires.within c.of.ensures

pub of-requires-4 : goal.of-requires-4
of-requires-4 c = small c.args.start.now c.args.depths Hearts c.of-3.result c.copy.ensures.board c.requires.within c.of-3.ensures

pub of-requires-6 : goal.of-requires-6
of-requires-6 c = small c.args.start.now c.args.depths Diamonds c.of-5.result c.copy.ensures.board c.requires.within c.of-5.ensures

pub of-requires-8 : goal.of-requires-8
of-requires-8 c = small c.args.start.now c.args.depths Clubs c.of-7.result c.copy.ensures.board c.requires.within c.of-7.ensures

pub invariant_of-result : goal.invariant_of-result
invariant_of-result c =
    let string = λ (u : Suit). ap (λ (s : Strings). string_in s u) c.requires.strings in
    new-packed c.args.start.now c.copy.result c.args.depths c.of-2.result c.of-4.result c.of-6.result c.of-8.result
    c.of.result c.of-3.result c.of-5.result c.of-7.result c.suit.result c.suit-2.result c.suit-3.result c.suit-4.result
    c.copy.ensures.same c.copy.ensures.board c.copy.ensures.start c.requires.within
    (c.of.ensures, c.suit.ensures ∙ string Spades, c.of-2.ensures.mask, c.of-2.ensures.owners)
    (c.of-3.ensures, c.suit-2.ensures ∙ string Hearts, c.of-4.ensures.mask, c.of-4.ensures.owners)
    (c.of-5.ensures, c.suit-3.ensures ∙ string Diamonds, c.of-6.ensures.mask, c.of-6.ensures.owners)
    (c.of-7.ensures, c.suit-4.ensures ∙ string Clubs, c.of-8.ensures.mask, c.of-8.ensures.owners)
