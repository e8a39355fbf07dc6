-- winning ranks before gaps were closed
use Rattle.std.proofs.Common.{◌≡◌, true, refl, ap, ◌∙◌, subst, List, [], ◌∷◌}
use Rattle.std.specs.Prelude.{map, ◌||◌}
use Rattle.dd_cards.specs.declared.strain.Strain.{Strain}
use Rattle.dd_cards.specs.PlayingCard.{PlayingCard}
use Rattle.dd_cards.specs.Cards.{has_card}
use Rattle.dd_cards.specs.Hands.{dealt, hand_of}
use Rattle.dd_cards.proofs.CallerLemmas.{real-set, same_card-self}
use Rattle.dd_play.specs.Board.{Board}
use Rattle.dd_relative.specs.Gaps.{raised, lowered, moved_hands, moved_up}
use Rattle.dd_relative.specs.Gapped.{IsGapped}
use Rattle.dd_relative.specs.Relative.{led_by_north}
use Rattle.dd_relative.specs.Turned.{from_leader}
use Rattle.dd_relative.specs.WinningRanks.{AreTop, AreOpened, AreBefore, with_next}
use Rattle.dd_relative.proofs.Cards.{is-apart}
use Rattle.dd_relative.proofs.Gapped.{alike-same, alike-then, closed-alike, closed-one, closed-up, closing-start, gap-none}
use Rattle.dd_relative.proofs.Joined.{next-raised}
use Rattle.dd_relative.proofs.Turned.{places_to_north, turned-alike, turned-all}
use Rattle.dd_rank.proofs.CallerLemmas.{in-all, all-in}

-- with no gap they are the same
pub opened-none : (l s t f gaps later cards : List PlayingCard) (strain : Strain) → gaps ≡ [] → cards ≡ later → IsGapped (led_by_north l s t f strain) gaps → AreOpened (led_by_north l s t f strain) later cards
opened-none l s t f gaps later cards strain none same gapped =
    record {
      q = led_by_north l s t f strain;
      to = λ c. c;
      from = λ d. d;
      relative = closed-up l s t f gaps strain none gapped;
      alike = alike-same (led_by_north l s t f strain) refl;
      same = λ c h. ap (λ x. has_card x c) same;
    }

-- with one gap more the next one joins
pub opened-step : (l s t f gaps rest mid later cards : List PlayingCard) (strain : Strain) (g : PlayingCard) → gaps ≡ g ∷ rest → AreTop mid → cards ≡ with_next g mid
    → AreOpened (led_by_north (moved_up g l) (moved_up g s) (moved_up g t) (moved_up g f) strain) later mid → IsGapped (led_by_north l s t f strain) gaps → AreOpened (led_by_north l s t f strain) later cards
opened-step l s t f gaps rest mid later cards strain g popped top are o gapped' =
    let gapped : IsGapped (led_by_north l s t f strain) (g ∷ rest) = subst (λ (x : List PlayingCard). IsGapped (led_by_north l s t f strain) x) popped gapped' in
    let a = closed-alike l s t f rest strain g gapped in
    record {
      q = o.q;
      to = λ c. o.to (raised g c);
      from = λ d. lowered g (o.from d);
      relative = o.relative;
      alike = alike-then 0 (raised g) (lowered g) o.to o.from (led_by_north l s t f strain) (led_by_north (moved_up g l) (moved_up g s) (moved_up g t) (moved_up g f) strain) o.q a o.alike;
      same = λ c h. (
          let x = all-in (led_by_north l s t f strain) c h in
          let apart = is-apart g (hand_of (dealt l s t f) x.0) c (gap-none l s t f rest strain g gapped x.0) x.1 in
          let real = real-set (hand_of (dealt l s t f) x.0) c (gapped.board.sets x.0) x.1 in
          let there = in-all (led_by_north (moved_up g l) (moved_up g s) (moved_up g t) (moved_up g f) strain) x.0 (raised g c) (a.forth x.0 c x.1).0 in
          ap (λ x. has_card x c) are ∙ next-raised g c mid top (gapped.real g (first-there g rest)) real apart ∙ o.same (raised g c) there);
    }
  where
    first-there : (g : PlayingCard) (rest : List PlayingCard) → has_card (g ∷ rest) g ≡ true
    first-there g rest = ap (λ b. b || has_card rest g) (same_card-self g)

-- .. of a board, whoever leads
pub opened-before : (p : Board) (gaps later cards : List PlayingCard) → IsGapped p gaps → AreOpened (from_leader p) later cards → AreBefore p later cards
opened-before p gaps later cards gapped o = record {
  q = o.q;
  k = places_to_north p.first;
  to = o.to;
  from = o.from;
  relative = o.relative;
  alike = alike-then (places_to_north p.first) (λ c. c) (λ d. d) o.to o.from p (from_leader p) o.q (turned-alike p gapped.start) o.alike;
  same = λ c h. o.same c (turned-all p c ∙ h);
}

-- the relation of boards that winning ranks are told across, for any hands with these gaps
abbrev pub Opens : List PlayingCard → List PlayingCard → List PlayingCard → Type 0
Opens gaps later cards = (l s t f : List PlayingCard) (strain : Strain) → IsGapped (led_by_north l s t f strain) gaps → AreOpened (led_by_north l s t f strain) later cards

-- with no gap they are the same
pub opens-none : (later : List PlayingCard) → Opens [] later later
opens-none later l s t f strain gapped = opened-none l s t f [] later later strain refl refl gapped

-- .. and with one gap more the next one joins
pub opens-one : (gaps next later mid cards : List PlayingCard) (g : PlayingCard) → next ≡ map (raised g) gaps → AreTop mid → cards ≡ with_next g mid → Opens next later mid → Opens (g ∷ gaps) later cards
opens-one gaps next later mid cards g moved top are inner l s t f strain gapped =
    let closing = closed-one (led_by_north l s t f strain) (dealt l s t f) (moved_hands g (dealt l s t f)) gaps next strain g (closing-start (led_by_north l s t f strain) (g ∷ gaps) gapped) refl moved in
    opened-step l s t f (g ∷ gaps) gaps mid later cards strain g refl top are (inner (moved_up g l) (moved_up g s) (moved_up g t) (moved_up g f) strain closing.gapped) gapped

-- .. of four gaps
pub opens-four : (a b c d b1 c1 d1 c2 d2 d3 : PlayingCard) (later w1 w2 w3 w4 : List PlayingCard) → b1 ≡ raised a b → c1 ≡ raised a c → d1 ≡ raised a d → c2 ≡ raised b1 c1 → d2 ≡ raised b1 d1 → d3 ≡ raised c2 d2
    → AreTop later → AreTop w1 → AreTop w2 → AreTop w3 → w1 ≡ with_next d3 later → w2 ≡ with_next c2 w1 → w3 ≡ with_next b1 w2 → w4 ≡ with_next a w3 → Opens (a ∷ b ∷ c ∷ d ∷ []) later w4
opens-four a b c d b1 c1 d1 c2 d2 d3 later w1 w2 w3 w4 eb1 ec1 ed1 ec2 ed2 ed3 t0 t1 t2 t3 e1 e2 e3 e4 =
    opens-one (b ∷ c ∷ d ∷ []) (b1 ∷ c1 ∷ d1 ∷ []) later w3 w4 a (rw (eb1, ec1, ed1) refl) t3 e4
    (opens-one (c1 ∷ d1 ∷ []) (c2 ∷ d2 ∷ []) later w2 w3 b1 (rw (ec2, ed2) refl) t2 e3
    (opens-one (d2 ∷ []) (d3 ∷ []) later w1 w2 c2 (rw ed3 refl) t1 e2
    (opens-one [] [] later later w1 d3 refl t0 e1 (opens-none later))))
