-- To be believed: what a line that asks for a play means: the position before the opening lead and the cards played from there on, or its first fault.
use Rattle.std.specs.Prelude.{◌≡◌, ℕ, ◌<◌, ◌&&◌, Bool, List, [], ◌∷◌, map, nat_lt, nat_le, length, codes, Option, None, Some, option_and_then, Result, Ok, Err, MatchOption, if◌then◌else◌}
use Rattle.std.specs.Bool.{MatchBool}
use Rattle.std.specs.List.{list_all}
use Rattle.std.specs.Str.{bytes_eq}
use Rattle.serde_json.specs.Data.{Data, Members}
use Rattle.serde_json.specs.Find.{get_member, as_array}
use Rattle.dd_cards.specs.Ranks.{is_rank}
use Rattle.dd_cards.specs.Seats.{seat_code}
use Rattle.dd_cards.specs.Strains.{strain_code}
use Rattle.dd_cards.specs.Hands.{FourHands}
use Rattle.dd_pbn.specs.Reading.{◌>>=◌}
use Rattle.dd_play.specs.Board.{IsEven, tricks_left}
use Rattle.dd_request.specs.declared.card_fault.CardFault.{CardFault}
use Rattle.dd_request.specs.declared.card_fault.CardFault.TheVariants as faults
use Rattle.dd_request.specs.CardFaults.{IsFirstFault}
use Rattle.dd_request.specs.Plays.{Play, IsRegular}
use Rattle.dd_request.specs.declared.asked.Asked.{Asked}
use Rattle.dd_request.specs.declared.asked.Asked.TheVariants as asked
use Rattle.dd_wire.specs.declared.fault.Fault.{Fault}
use Rattle.dd_wire.specs.declared.fault.Fault.TheVariants.{WrongTrump, WrongFirst, WrongPlayed, UnevenHands, NoCard, NotInHand, Revoke, AfterLast}
use Rattle.dd_wire.specs.Requests.{MeansDeal, MeansObject, asked_as, are_among, keys_of, text_at, whole_number_at, pairs_of, pair_of_card}

-- ---- the fields

-- the fields of a request for a play; the cards as pairs of a suit's code and a rank
pub record PlayFields : Type 0 where
  pub deal : List ℕ
  pub trump : ℕ
  pub first : ℕ
  pub cards : List (ℕ × ℕ)

-- the names of these fields
abbrev pub play_keys : List (List ℕ)
play_keys = codes "cards" ∷ codes "deal" ∷ codes "do" ∷ codes "first" ∷ codes "trump" ∷ codes "wait" ∷ []

-- a list of pairs
abbrev pub list_of_pairs : Data → Option (List (ℕ × ℕ))
list_of_pairs value = option_and_then pairs_of (as_array value)

-- the fields, where all of them are there, each of its kind, and no other is
abbrev pub play_fields : Members → Option PlayFields
play_fields members = if are_among play_keys (keys_of members) then (do
  task ← text_at members (codes "do")
  if bytes_eq task (codes "play") then (do
    deal ← text_at members (codes "deal")
    trump ← whole_number_at members (codes "trump")
    first ← whole_number_at members (codes "first")
    cards ← option_and_then list_of_pairs (get_member (codes "cards") members)
    Some (record { deal = deal; trump = trump; first = first; cards = cards })) else None) else None

-- ---- the play

-- at most 52 pairs, each of a suit's code and a rank
abbrev pub are_cards_played : List (ℕ × ℕ) → Bool
are_cards_played pairs = nat_le (length pairs) 52 && list_all (λ pair. nat_lt pair.0 4 && is_rank pair.1) pairs

-- these hands, with the strain, the opening leader and the cards of these codes
pub record IsPlayOf (hands : FourHands) (fields : PlayFields) (play : Play) : Type 0 where
  pub dealt : play.opening.hands ≡ hands
  pub strain : strain_code play.opening.strain ≡ fields.trump
  pub first : seat_code play.opening.first ≡ fields.first
  pub trick : play.opening.trick ≡ []
  pub cards : map pair_of_card play.cards ≡ fields.cards

-- the fault of a card that may not be played in its turn
abbrev pub card_fault : CardFault → Fault
card_fault faults.AfterLast = AfterLast
card_fault faults.NotInHand = NotInHand
card_fault faults.Revoke = Revoke

-- the cards decide: uneven hands, none to play, one that may not be played in its turn, or a play
pub record MeansPlay (play : Play) (meaning : Result Play Fault) : Type 0 where
  pub uneven : (IsEven play.opening → ⊥) → meaning ≡ Err UnevenHands
  pub none : IsEven play.opening → tricks_left play.opening ≡ 0 → meaning ≡ Err NoCard
  pub fault : IsEven play.opening → 0 < tricks_left play.opening → (fault : CardFault) → IsFirstFault fault play.opening play.cards → meaning ≡ Err (card_fault fault)
  pub some : IsEven play.opening → 0 < tricks_left play.opening → IsRegular play.opening play.cards → meaning ≡ Ok play

-- the trump, then the leader, then that the cards are cards, then the cards of hands and play
abbrev pub MeansPlayed : PlayFields → FourHands → Result Play Fault → Type 0
MeansPlayed fields hands meaning =
    MatchBool (nat_lt 4 fields.trump) (meaning ≡ Err WrongTrump)
    (MatchBool (nat_lt 3 fields.first) (meaning ≡ Err WrongFirst)
    (MatchBool (are_cards_played fields.cards)
    ((play : Play) × IsPlayOf hands fields play × MeansPlay play meaning)
    (meaning ≡ Err WrongPlayed)))

-- the deal first
abbrev pub MeansPlayFields : PlayFields → Result Play Fault → Type 0
MeansPlayFields fields = MeansDeal fields.deal (MeansPlayed fields)

-- ---- the members

-- what members ask that a job book takes: a play, or else a table or cards of a position
abbrev pub MeansAsked : Members → Result Asked Fault → Type 0
MeansAsked members meaning =
    MatchOption (play_fields members) (MeansObject members meaning)
    (λ fields. (play : Result Play Fault) × MeansPlayFields fields play × (meaning ≡ asked_as asked.Play play))
