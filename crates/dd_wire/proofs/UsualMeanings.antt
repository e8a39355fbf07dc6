-- What lines of the usual forms mean.
use denote.Bor.{Bor}
use Rattle.std.proofs.Common.{◌≡◌, ℕ, ◌≤◌, Bool, true, List, [], ◌∷◌, refl, subst, length, map, Option, Some, None}
use Rattle.std.proofs.lemmas.Bool.{false≢true}
use Rattle.std.specs.Prelude.{codes, Result, IsSome}
use Rattle.std.specs.Str.{IsUtf8}
use Rattle.arrayvec.specs.declared.array_vec.ArrayVec.{ArrayVec}
use Rattle.serde_json.specs.Data.{number, unsigned, string, object, Members, no_members, member}
use Rattle.serde_json.specs.Read.{read}
use Rattle.dd_cards.specs.PlayingCard.{PlayingCard}
use Rattle.dd_lines.specs.Line.{longest_line}
use Rattle.dd_wire.specs.declared.fault.Fault.{Fault}
use Rattle.dd_wire.specs.declared.line_asked.LineAsked.{LineAsked}
use Rattle.dd_wire.specs.declared.request_reader.SolveFields.{SolveFields}
use Rattle.dd_wire.specs.declared.request_reader.TheConstants.{MOST_PLAYED}
use Rattle.dd_wire.specs.declared.session_asked.SessionAsked.{SessionAsked}
use Rattle.dd_wire.specs.declared.usual_reader.Fields.{Fields}
use Rattle.dd_wire.specs.declared.on_trick.OnTrick.{OnTrick}
use Rattle.dd_wire.specs.declared.usual_reader.Task.TheVariants as tasks
use Rattle.dd_wire.specs.Lines.{Means, MeansMembers}
use Rattle.dd_wire.specs.ParLines.{par_fields}
use Rattle.dd_wire.specs.PlayLines.{play_fields}
use Rattle.dd_wire.specs.Reading.{fields_of}
use Rattle.dd_wire.specs.Requests.{are_cards, pair_of_card, pairs_of, table_deal, wait_at}
use Rattle.dd_wire.specs.UsualLines.{IsSolve, IsUncalled, IsWanted, ReadsPosition, cards_or_none, items_of_pairs, members_of, number_in, slotted, trick_in, wait_of}
use Rattle.dd_wire.specs.Wants.{MeansWant}
use Rattle.dd_wire.proofs.LineMeanings.{means-members}
use Rattle.dd_wire.proofs.Objects.{object_of-read}
use Rattle.dd_wire.proofs.WantMeanings.{means-wanted}

-- ---- cards of a position

abbrev pub solve_members : List ℕ → ℕ → Option OnTrick → ℕ → Option ℕ → ℕ → Option ℕ → Members
solve_members deal first played solutions target trump wait =
    member (codes "deal") (string deal) (member (codes "do") (string (codes "solve")) (member (codes "first") (number (unsigned first))
    (slotted (codes "played") (trick_in played) (member (codes "solutions") (number (unsigned solutions)) (slotted (codes "target") (number_in target)
    (member (codes "trump") (number (unsigned trump)) (slotted (codes "wait") (number_in wait) no_members)))))))

solve-members : (f : Fields) (deal : Bor (List ℕ)) (first solutions trump : ℕ) → f.task ≡ Some tasks.Solve → f.dealer ≡ None → f.job ≡ None → f.side ≡ None → f.table ≡ None → f.vulnerable ≡ None
    → f.deal ≡ Some deal → f.first ≡ Some first → f.solutions ≡ Some solutions → f.trump ≡ Some trump
    → solve_members deal.now first f.played solutions f.target trump f.wait ≡ members_of f
solve-members f deal first solutions trump task dealer job side table sides text leader count strain = rw (task, dealer, job, side, table, sides, text, leader, count, strain) refl

pairs-again : (pairs : List (ℕ × ℕ)) → pairs_of (items_of_pairs pairs) ≡ Some pairs
pairs-again [] = refl
pairs-again (pair ∷ pairs) = rw (pairs-again pairs) refl

abbrev Kept : Type 0
Kept = ArrayVec PlayingCard MOST_PLAYED (Unit {0})

abbrev kept_fields : Bor (List ℕ) → ℕ → ℕ → ℕ → Kept → SolveFields
kept_fields deal first solutions trump cards = record { deal = deal; trump = trump; first = first; played = Some cards; solutions = solutions }

-- the fields that the members are read as
reads-solve : (deal : Bor (List ℕ)) (first solutions trump : ℕ) (played : Option OnTrick) (target wait : Option ℕ) (cards : Kept) → cards.items ≡ cards_or_none played
    → ReadsPosition (solve_members deal.now first played solutions target trump wait) target (fields_of (kept_fields deal first solutions trump cards) (map pair_of_card cards.items))
reads-solve deal first solutions trump None None None cards is = (refl, rw is refl)
reads-solve deal first solutions trump None None (Some wait) cards is = (refl, rw is refl)
reads-solve deal first solutions trump None (Some target) None cards is = rw is refl
reads-solve deal first solutions trump None (Some target) (Some wait) cards is = rw is refl
reads-solve deal first solutions trump (Some trick) None None cards is =
    (rw (pairs-again (map pair_of_card trick.cards.items)) refl, rw (is, pairs-again (map pair_of_card trick.cards.items)) refl)
reads-solve deal first solutions trump (Some trick) None (Some wait) cards is =
    (rw (pairs-again (map pair_of_card trick.cards.items)) refl, rw (is, pairs-again (map pair_of_card trick.cards.items)) refl)
reads-solve deal first solutions trump (Some trick) (Some target) None cards is = rw (is, pairs-again (map pair_of_card trick.cards.items)) refl
reads-solve deal first solutions trump (Some trick) (Some target) (Some wait) cards is = rw (is, pairs-again (map pair_of_card trick.cards.items)) refl

-- and no others
record IsNoOther (members : Members) (wait : ℕ) : Type 0 where
  par : par_fields members ≡ None
  play : play_fields members ≡ None
  table : table_deal members ≡ None
  waits : wait_at members ≡ Some wait
  uncalled : IsUncalled members

no-other : (deal : List ℕ) (first solutions trump : ℕ) (played : Option OnTrick) (target wait : Option ℕ)
    → IsNoOther (solve_members deal first played solutions target trump wait) (wait_of wait)
no-other deal first solutions trump None None None = record { par = refl; play = refl; table = refl; waits = refl; uncalled = record { call = λ _. refl; health = refl } }
no-other deal first solutions trump None None (Some wait) = record { par = refl; play = refl; table = refl; waits = refl; uncalled = record { call = λ _. refl; health = refl } }
no-other deal first solutions trump None (Some target) None = record { par = refl; play = refl; table = refl; waits = refl; uncalled = record { call = λ _. refl; health = refl } }
no-other deal first solutions trump None (Some target) (Some wait) = record { par = refl; play = refl; table = refl; waits = refl; uncalled = record { call = λ _. refl; health = refl } }
no-other deal first solutions trump (Some trick) None None = record { par = refl; play = refl; table = refl; waits = refl; uncalled = record { call = λ _. refl; health = refl } }
no-other deal first solutions trump (Some trick) None (Some wait) = record { par = refl; play = refl; table = refl; waits = refl; uncalled = record { call = λ _. refl; health = refl } }
no-other deal first solutions trump (Some trick) (Some target) None = record { par = refl; play = refl; table = refl; waits = refl; uncalled = record { call = λ _. refl; health = refl } }
no-other deal first solutions trump (Some trick) (Some target) (Some wait) = record { par = refl; play = refl; table = refl; waits = refl; uncalled = record { call = λ _. refl; health = refl } }

pub solve-of : (f : Fields) (deal : Bor (List ℕ)) (first solutions trump : ℕ) (cards : Kept) → f.task ≡ Some tasks.Solve → f.dealer ≡ None → f.job ≡ None → f.side ≡ None → f.table ≡ None
    → f.vulnerable ≡ None → f.deal ≡ Some deal → f.first ≡ Some first → f.solutions ≡ Some solutions → f.trump ≡ Some trump → cards.items ≡ cards_or_none f.played → are_cards (map pair_of_card cards.items) ≡ true
    → IsSolve (members_of f) f.target (wait_of f.wait) (kept_fields deal first solutions trump cards)
solve-of f deal first solutions trump cards task dealer job side table sides text leader count strain is valid =
    let none = no-other deal.now first solutions trump f.played f.target f.wait in
    subst (λ (ms : Members). IsSolve ms f.target (wait_of f.wait) (kept_fields deal first solutions trump cards))
    (solve-members f deal first solutions trump task dealer job side table sides text leader count strain)
    (record {
      par = none.par;
      play = none.play;
      table = none.table;
      pairs = map pair_of_card cards.items;
      played = (valid, refl);
      read = reads-solve deal first solutions trump f.played f.target f.wait cards is;
      waits = none.waits;
      uncalled = none.uncalled;
    })

-- ---- the line

pub usual-means : (line : List ℕ) (members : Members) (meaning : Result LineAsked Fault) → IsUtf8 line → read line ≡ Some (object members) → IsSome (wait_at members) → MeansMembers members meaning
    → length line ≤ longest_line → Means line meaning
usual-means line members meaning utf8 is waits means short =
    let wait = some-of (wait_at members) waits in means-members line members wait.0 meaning short (object_of-read line (object members) utf8 is) wait.1 means
  where
    some-of : (o : Option ℕ) → IsSome o → (n : ℕ) × (o ≡ Some n)
    some-of None is = absurd (false≢true is)
    some-of (Some n) is = (n, refl)

-- the same in a session
pub usual-wants : (line : List ℕ) (members : Members) (meaning : Result SessionAsked Fault) → IsUtf8 line → read line ≡ Some (object members) → IsWanted members meaning
    → length line ≤ longest_line → (leave : Bool) → MeansWant leave line meaning
usual-wants line members meaning utf8 is wanted short leave =
    means-wanted leave line members wanted.0 meaning short (object_of-read line (object members) utf8 is) wanted.1 (wanted.2 leave)
