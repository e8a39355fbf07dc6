use Rattle.dd_pbn.proofs.Examples.{spades-and-hearts, from-north, from-east, tag-from-east, written-eight, three-suits, left-out, two-aces, left-out-and-two-aces}
use Rattle.dd_pbn.proofs.laws.worked_texts.Goals as goal

pub returns : goal.returns
returns c =
    record {
      spades_and_hearts = spades-and-hearts.1;
      from_north = from-north.1;
      from_east = from-east.1;
      tag = tag-from-east.1;
      writes = written-eight;
      hands = (from-north.0, spades-and-hearts.0);
      three_suits = three-suits;
      left_out = left-out;
      two_aces = two-aces;
      left_out_and_two_aces = left-out-and-two-aces;
    }
