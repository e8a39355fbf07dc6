-- A reply is one line: none of its bytes is a control character.
use Rattle.std.proofs.Common.{◌≡◌, ◌⊎◌, ◌+◌, ◌/◌, ◌%◌, ◌==◌, ℕ, zero, suc, ℤ, pos, negsuc, Bool, true, false, inl, inr, refl, subst, sym, arith, List, [], ◌∷◌, ◌++◌, drop, map, Option, None, Some}
use Rattle.std.specs.Prelude.{◌&&◌, codes, decimal, length, nat_le, nat_lt, MatchOption, option_and_then, Result, Ok, Err, not, is_some, if◌then◌else◌}
use Rattle.std.specs.Bool.{MatchBool}
use Rattle.std.specs.Fmt.{digit_glyph, digits, digits_onto, signed_decimal}
use Rattle.std.specs.List.{join_with_byte, list_all, range_with_len}
use Rattle.std.proofs.lemmas.Bool.{and_from, and_parts}
use Rattle.std.proofs.lemmas.Bool.Decides.{nat_tests}
use Rattle.serde_json.specs.Data.{Data, Members}
use Rattle.serde_json.specs.Find.{as_str, get_member}
use Rattle.dd_lines.specs.Line.{longest_line}
use Rattle.dd_score.specs.declared.par_contract.Declarers.{Declarers}
use Rattle.dd_score.specs.declared.par_contract.ParContract.{ParContract}
use Rattle.dd_cards.specs.Strains.{strain_code}
use Rattle.dd_cards.specs.Suits.{suit_code}
use Rattle.dd_request.specs.declared.asked.Asked.TheVariants.{Solve, Table, Target, Play}
use Rattle.dd_request.specs.ScoredClasses.{ScoredClass}
use Rattle.dd_wire.specs.declared.fault.Fault.{Fault}
use Rattle.dd_wire.specs.declared.fault.Fault.TheVariants.{LineTooLong, NotAnObject, WrongField, DealText, HandLeftOut, CardTwice, WrongTrump, WrongFirst, WrongPlayed, WrongSolutions, WrongTarget, WrongOrder, WrongVulnerable, WrongResult, UnevenHands, NoCard, NotThirteen, AfterLast, NotInHand, Revoke, OutOfMemory}
use Rattle.dd_wire.specs.declared.fault_field.Task.{Task}
use Rattle.dd_wire.specs.declared.fault_field.Task.TheVariants as task
use Rattle.dd_wire.specs.declared.line_asked.LineAsked.{LineAsked}
use Rattle.dd_wire.specs.declared.line_asked.LineAsked.TheVariants.{Cards, Par, ParOfDeal}
use Rattle.dd_wire.specs.Explained.{IsBareReply, IsBareReplyTo, IsExplained, IsObjectReply, IsUnreadReply}
use Rattle.dd_wire.specs.FaultFields.{deal_alone, field_of, has_cards, has_key, has_number, has_text, keys_for, may_have_number, one_of_two, other_key, task_in, told_key, wrong_field, wrong_for, wrong_known, wrong_of_call, wrong_of_par, wrong_of_play, wrong_of_solve}
use Rattle.dd_wire.specs.Faults.{fault_number}
use Rattle.dd_wire.specs.FaultWords.{explained_text, fault_told, field_member, has_mark, is_blank_line, words_of, words_of_line}
use Rattle.dd_wire.specs.Ids.{id_text, is_plain, is_plain_byte, plain_id, quoted, with_id, without}
use Rattle.dd_wire.specs.LineReplies.{IsAnswer, IsReply, IsReplyTo}
use Rattle.dd_wire.specs.ParLines.{first_in, given_in}
use Rattle.dd_wire.specs.ParReplies.{contract_text, declarer_codes, declarers_text, par_text}
use Rattle.dd_wire.specs.PlayReplies.{trace_text}
use Rattle.dd_wire.specs.Replies.{answer_text, class_text, is_one_line, list_text, numbered_fault_text, of_strain, spent_text, table_text}
use Rattle.dd_wire.specs.Requests.{object_of, pairs_at, wait_at, whole_number}

-- ---- texts of texts
pub record IsLine (text : List ℕ) : Type 0 where
  pub holds : is_one_line text ≡ true

-- a fixed text
fixed : (text : List ℕ) → is_one_line text ≡ true → IsLine text
fixed text holds = record { holds = holds }

joined : (a b : List ℕ) → is_one_line a ≡ true → is_one_line b ≡ true → is_one_line (a ++ b) ≡ true
joined [] b first second = second
joined (byte ∷ a) b first second =
    let parts = and_parts (nat_le 32 byte) (is_one_line a) first in and_from (nat_le 32 byte) (is_one_line (a ++ b)) parts.0 (joined a b parts.1 second)

join : {a b : List ℕ} → IsLine a → IsLine b → IsLine (a ++ b)
join {a} {b} first second = record { holds = joined a b first.holds second.holds }

-- without its first byte
shorter : (text : List ℕ) → IsLine text → IsLine (drop 1 text)
shorter [] line = line
shorter (byte ∷ text) line = record { holds = (and_parts (nat_le 32 byte) (is_one_line text) line.holds).1 }

-- texts with a comma between each two
listed : {X : Type 0} (f : X → List ℕ) → ((x : X) → IsLine (f x)) → (xs : List X) → IsLine (join_with_byte 44 (map f xs))
listed f each [] = fixed [] refl
listed f each (x ∷ []) = each x
listed f each (x ∷ (y ∷ xs)) = join (each x) (record { holds = and_from true _ refl (listed f each (y ∷ xs)).holds })

-- ---- numbers
glyph : (d : ℕ) → nat_le 32 (digit_glyph false d) ≡ true
glyph d = go (nat_lt d 10)
  where
    go : (small : Bool) → nat_le 32 (if small then 48 + d else 87 + d) ≡ true
    go true = grind (arith, nat_tests)
    go false = grind (arith, nat_tests)

number-onto : (k n : ℕ) (acc : List ℕ) → is_one_line acc ≡ true → is_one_line (digits_onto k 10 false n acc) ≡ true
number-onto zero n acc holds = holds
number-onto (suc k) n acc holds = go (n / 10 == 0) (number-onto k (n / 10) (digit_glyph false (n % 10) ∷ acc) more)
  where
    more : is_one_line (digit_glyph false (n % 10) ∷ acc) ≡ true
    more = and_from (nat_le 32 (digit_glyph false (n % 10))) (is_one_line acc) (glyph (n % 10)) holds

    go : (last : Bool) → is_one_line (digits_onto k 10 false (n / 10) (digit_glyph false (n % 10) ∷ acc)) ≡ true
        → is_one_line (if last then digit_glyph false (n % 10) ∷ acc else digits_onto k 10 false (n / 10) (digit_glyph false (n % 10) ∷ acc)) ≡ true
    go true others = more
    go false others = others

number : (n : ℕ) → IsLine (decimal n)
unfolding digits
number n = record { holds = number-onto 64 n [] refl }

signed : (z : ℤ) → IsLine (signed_decimal z)
signed (pos n) = number n
signed (negsuc n) = record { holds = and_from true _ refl (number (suc n)).holds }

-- ---- answers
numbers : (list : List ℕ) → IsLine (list_text list)
numbers list = join (join (fixed (codes "[") refl) (listed decimal number list)) (fixed (codes "]") refl)

of-class : (class : ScoredClass) → IsLine (class_text class)
of-class class =
    join (join (join (join (join (join (join (join (fixed (codes "{\"equals\":") refl) (number class.equals)) (fixed (codes ",\"rank\":") refl)) (number class.card.rank))
    (fixed (codes ",\"score\":") refl)) (number class.score)) (fixed (codes ",\"suit\":") refl)) (number (suit_code class.card.suit))) (fixed (codes "}") refl)

of-answer : (classes : List ScoredClass) → IsLine (answer_text classes)
of-answer classes =
    join (join (fixed (codes "{") refl) (join (join (fixed (codes "\"cards\":[") refl) (listed class_text of-class classes)) (fixed (codes "]") refl))) (fixed (codes "}") refl)

of-table : (results : List ℕ) → IsLine (table_text results)
of-table results =
    join (join (fixed (codes "{") refl) (join (join (fixed (codes "\"table\":[") refl)
    (listed (λ strain. list_text (of_strain results strain)) (λ strain. numbers (of_strain results strain)) (range_with_len 0 5))) (fixed (codes "]") refl))) (fixed (codes "}") refl)

of-trace : (tricks : List ℕ) → IsLine (trace_text tricks)
of-trace tricks = join (join (fixed (codes "{") refl) (join (fixed (codes "\"tricks\":") refl) (numbers tricks))) (fixed (codes "}") refl)

of-declarers : (declarers : Declarers) → IsLine (declarers_text declarers)
unfolding declarers_text
of-declarers declarers = numbers (declarer_codes declarers)

of-contract : (contract : ParContract) → IsLine (contract_text contract)
of-contract contract =
    join (join (join (join (join (join (join (join (fixed (codes "{\"declarers\":") refl) (of-declarers contract.declarers)) (fixed (codes ",\"level\":") refl)) (number contract.level))
    (fixed (codes ",\"tricks\":") refl)) (number contract.tricks)) (fixed (codes ",\"trump\":") refl)) (number (strain_code contract.strain))) (fixed (codes "}") refl)

of-par : (contracts : List ParContract) (score : ℤ) → IsLine (par_text contracts score)
of-par contracts score =
    join (join (join (join (fixed (codes "{\"contracts\":[") refl) (listed contract_text of-contract contracts)) (fixed (codes "],\"score\":") refl)) (signed score)) (fixed (codes "}") refl)

same : {a b : List ℕ} → a ≡ b → IsLine b → IsLine a
same is line = subst IsLine (sym is) line

of-asked : (asked : LineAsked) (text : List ℕ) → IsAnswer asked text → IsLine text
of-asked (Cards (Solve question)) text is = same is (of-answer _)
of-asked (Cards (Table hands)) text is = same is (of-table _)
of-asked (Cards (Target question)) text is = same is (of-answer _)
of-asked (Cards (Play play)) text is = same is (of-trace _)
of-asked (Par par) text (score, par-is, is) = same is (of-par _ score)
of-asked (ParOfDeal par) text (score, par-is, is) = same is (of-par _ score)

-- ---- faults
of-number : (fault : ℕ) → IsLine (numbered_fault_text fault)
of-number fault = join (join (fixed (codes "{\"fault\":") refl) (number fault)) (fixed (codes "}") refl)

of-words : (fault : Fault) → IsLine (words_of fault)
unfolding words_of
of-words LineTooLong = fixed _ refl
of-words NotAnObject = fixed _ refl
of-words WrongField = fixed _ refl
of-words DealText = fixed _ refl
of-words HandLeftOut = fixed _ refl
of-words CardTwice = fixed _ refl
of-words UnevenHands = fixed _ refl
of-words NoCard = fixed _ refl
of-words WrongTrump = fixed _ refl
of-words WrongFirst = fixed _ refl
of-words WrongPlayed = fixed _ refl
of-words WrongSolutions = fixed _ refl
of-words WrongTarget = fixed _ refl
of-words WrongOrder = fixed _ refl
of-words WrongVulnerable = fixed _ refl
of-words WrongResult = fixed _ refl
of-words NotThirteen = fixed _ refl
of-words AfterLast = fixed _ refl
of-words NotInHand = fixed _ refl
of-words Revoke = fixed _ refl
of-words OutOfMemory = fixed _ refl

chosen : (b : Bool) (x y : List ℕ) → IsLine x → IsLine y → IsLine (if b then x else y)
chosen true x y a c = a
chosen false x y a c = c

of-line-words : (line : List ℕ) → IsLine (words_of_line line)
unfolding words_of_line
of-line-words line = chosen (is_blank_line line) _ _ (fixed _ refl) (chosen (has_mark line) _ _ (fixed _ refl) (of-words NotAnObject))

in-quotes : {text : List ℕ} → IsLine text → IsLine (quoted text)
in-quotes line = join (join (fixed (codes "\"") refl) line) (fixed (codes "\"") refl)

-- ---- the field of a fault
-- where there is one
abbrev AnyLine : Option (List ℕ) → Type 0
AnyLine None = Unit {0}
AnyLine (Some text) = IsLine text

either : (b : Bool) (x y : Option (List ℕ)) → AnyLine x → AnyLine y → AnyLine (if b then x else y)
either true x y a c = a
either false x y a c = c

plain-bytes : (text : List ℕ) → list_all is_plain_byte text ≡ true → is_one_line text ≡ true
plain-bytes [] all = refl
plain-bytes (byte ∷ text) all =
    let parts = and_parts (is_plain_byte byte) (list_all is_plain_byte text) all in
    and_from (nat_le 32 byte) (is_one_line text) (and_parts (nat_le 32 byte) _ parts.0).0 (plain-bytes text parts.1)

plain : (text : List ℕ) → is_plain text ≡ true → IsLine text
plain text is = record { holds = plain-bytes text (and_parts _ (list_all is_plain_byte text) is).1 }

of-key : (key : List ℕ) → AnyLine (told_key key)
of-key key = go (is_plain key) refl
  where
    go : (b : Bool) → is_plain key ≡ b → AnyLine (if b then Some key else None)
    go true is = plain key is
    go false is = tt

of-two : (members : Members) (first second : List ℕ) → IsLine first → IsLine second → IsLine (one_of_two members first second)
of-two members first second a c = chosen (has_key members second && not (has_key members first)) second first c a

of-solve : (members : Members) → AnyLine (wrong_of_solve members)
of-solve members =
    either (not (has_text members (codes "deal"))) _ _ (fixed (codes "deal") refl)
    (either (not (has_number members (codes "trump"))) _ _ (fixed (codes "trump") refl)
    (either (not (has_number members (codes "first"))) _ _ (fixed (codes "first") refl)
    (either (not (is_some (pairs_at members (codes "played")))) _ _ (fixed (codes "played") refl)
    (either (not (has_number members (codes "solutions"))) _ _ (fixed (codes "solutions") refl)
    (either (not (may_have_number members (codes "target"))) (Some (codes "target")) None (fixed (codes "target") refl) tt)))))

of-play : (members : Members) → AnyLine (wrong_of_play members)
of-play members =
    either (not (has_text members (codes "deal"))) _ _ (fixed (codes "deal") refl)
    (either (not (has_number members (codes "trump"))) _ _ (fixed (codes "trump") refl)
    (either (not (has_number members (codes "first"))) _ _ (fixed (codes "first") refl)
    (either (not (has_cards members)) (Some (codes "cards")) None (fixed (codes "cards") refl) tt)))

of-par-fields : (members : Members) → AnyLine (wrong_of_par members)
of-par-fields members =
    either (not (is_some (given_in members))) _ _ (of-two members (codes "table") (codes "deal") (fixed _ refl) (fixed _ refl))
    (either (not (is_some (first_in members))) _ _ (of-two members (codes "dealer") (codes "side") (fixed _ refl) (fixed _ refl))
    (either (not (has_number members (codes "vulnerable"))) (Some (codes "vulnerable")) None (fixed (codes "vulnerable") refl) tt))

of-call : (members : Members) → AnyLine (wrong_of_call members)
of-call members = either (not (has_number members (codes "job"))) (Some (codes "job")) None (fixed (codes "job") refl) tt

of-task : (known : Task) (members : Members) → AnyLine (wrong_known known members)
of-task task.Solve members = of-solve members
of-task task.Table members = either (not (has_text members (codes "deal"))) (Some (codes "deal")) None (fixed (codes "deal") refl) tt
of-task task.Play members = of-play members
of-task task.Par members = of-par-fields members
of-task task.TablePar members = of-par-fields members
of-task task.Fetch members = of-call members
of-task task.Cancel members = of-call members
of-task task.Health members = tt
of-task task.Stop members = tt

of-fields : (known : Task) (members : Members) → AnyLine (wrong_for members known)
of-fields known members = go (other_key (keys_for known) members)
  where
    go : (other : Option (List ℕ)) → AnyLine (elim other as (λ _. Option (List ℕ)) [ None ↦ wrong_known known members | Some key ↦ told_key key ])
    go None = of-task known members
    go (Some key) = of-key key

of-wrong : (members : Members) → AnyLine (wrong_field members)
unfolding wrong_field
of-wrong members = either (not (is_some (wait_at members))) _ _ (fixed (codes "wait") refl) (go (task_in members))
  where
    go : (known : Option Task) → AnyLine (elim known as (λ _. Option (List ℕ)) [ None ↦ Some (codes "do") | Some found ↦ wrong_for members found ])
    go None = fixed (codes "do") refl
    go (Some found) = of-fields found members

of-deal : (members : Members) → AnyLine (deal_alone members)
of-deal members = either (has_key members (codes "played")) None (Some (codes "deal")) tt (fixed (codes "deal") refl)

of-field : (members : Members) (fault : Fault) → AnyLine (field_of members fault)
unfolding field_of
of-field members WrongField = of-wrong members
of-field _ DealText = fixed _ refl
of-field _ HandLeftOut = fixed _ refl
of-field members CardTwice = of-deal members
of-field members UnevenHands = of-deal members
of-field _ NoCard = fixed _ refl
of-field _ NotThirteen = fixed _ refl
of-field _ WrongTrump = fixed _ refl
of-field _ WrongFirst = fixed _ refl
of-field members WrongPlayed = of-two members (codes "played") (codes "cards") (fixed _ refl) (fixed _ refl)
of-field _ WrongSolutions = fixed _ refl
of-field _ WrongTarget = fixed _ refl
of-field members WrongOrder = of-two members (codes "dealer") (codes "side") (fixed _ refl) (fixed _ refl)
of-field _ WrongVulnerable = fixed _ refl
of-field _ WrongResult = fixed _ refl
of-field _ AfterLast = fixed _ refl
of-field _ NotInHand = fixed _ refl
of-field _ Revoke = fixed _ refl
of-field _ LineTooLong = tt
of-field _ NotAnObject = tt
of-field _ OutOfMemory = tt

of-member : (field : Option (List ℕ)) → AnyLine field → IsLine (field_member field)
of-member None line = fixed [] refl
of-member (Some field) line = join (fixed (codes ",\"field\":") refl) (in-quotes line)

of-explained : (fault : ℕ) (field : Option (List ℕ)) (words : List ℕ) → AnyLine field → IsLine words → IsLine (explained_text fault field words)
of-explained fault field words told line =
    join (join (join (join (join (fixed (codes "{\"fault\":") refl) (number fault)) (of-member field told)) (fixed (codes ",\"text\":") refl)) (in-quotes line)) (fixed (codes "}") refl)

of-told : (fault : Fault) (field : Option (List ℕ)) → AnyLine field → IsLine (fault_told fault field)
of-told fault field told = of-explained (fault_number fault) field (words_of fault) told (of-words fault)

-- ---- the id
of-plain-id : (text id : List ℕ) → plain_id text ≡ Some id → IsLine id
of-plain-id text id = go (is_plain text) refl
  where
    some : (a b : List ℕ) → Some a ≡ Some b → a ≡ b
    some a b e = cc

    go : (b : Bool) → is_plain text ≡ b → (if b then Some (quoted text) else None) ≡ Some id → IsLine id
    go true is e = subst IsLine (some (quoted text) id e) (in-quotes (plain text is))
    go false is e = absurd cc

of-id : (value : Data) (id : List ℕ) → id_text value ≡ Some id → IsLine id
of-id value id = go (whole_number value)
  where
    some : (a b : List ℕ) → Some a ≡ Some b → a ≡ b
    some a b e = cc

    of-text : (text : Option (List ℕ)) → option_and_then plain_id text ≡ Some id → IsLine id
    of-text None e = absurd cc
    of-text (Some text) e = of-plain-id text id e

    go : (n : Option ℕ) → (elim n as (λ _. Option (List ℕ)) [ None ↦ option_and_then plain_id (as_str value) | Some found ↦ Some (decimal found) ]) ≡ Some id → IsLine id
    go None e = of-text (as_str value) e
    go (Some found) e = subst IsLine (some (decimal found) id e) (number found)

of-named : (id reply : List ℕ) → IsLine id → IsLine reply → IsLine (with_id id reply)
of-named id reply first second = join (join (join (fixed (codes "{\"id\":") refl) first) (fixed (codes ",") refl)) (shorter reply second)

-- ---- replies
of-meaning : (meaning : Result LineAsked Fault) (text : List ℕ) → IsReplyTo meaning text → IsLine text
of-meaning (Ok asked) text is = of-asked asked text is
of-meaning (Err fault) text is = same is (of-number (fault_number fault))

pub reply-is-line : (gave_up : Type 0) (line text : List ℕ) → IsReply gave_up line text → is_one_line text ≡ true
reply-is-line gave_up line text (inl (meaning, means, is)) = (of-meaning meaning text is).holds
reply-is-line gave_up line text (inr (inl (some, fits, is))) = (same is (of-number (fault_number OutOfMemory))).holds
reply-is-line gave_up line text (inr (inr (asked, means, searched, some, is))) = (same is (fixed spent_text refl)).holds

of-bare-meaning : (members : Members) (meaning : Result LineAsked Fault) (text : List ℕ) → IsBareReplyTo members meaning text → IsLine text
of-bare-meaning _ (Ok asked) text is = of-asked asked text is
of-bare-meaning members (Err fault) text is = same is (of-told fault (field_of members fault) (of-field members fault))

of-bare : (gave_up : Type 0) (members : Members) (text : List ℕ) → IsBareReply gave_up members text → IsLine text
unfolding IsBareReply
of-bare gave_up members text (inl (meaning, means, is)) = of-bare-meaning members meaning text is
of-bare gave_up members text (inr (asked, means, searched, some, is)) = same is (fixed spent_text refl)

by-option : {A : Type 0} (o : Option A) (P : Type 0) (Q : A → Type 0) (R : Type 0) → (P → R) → ((x : A) → o ≡ Some x → Q x → R) → MatchOption o P Q → R
by-option None P Q R none some = none
by-option (Some x) P Q R none some = some x refl

by-test : (b : Bool) (P Q R : Type 0) → (P → R) → (Q → R) → MatchBool b P Q → R
by-test true P Q R held failed = held
by-test false P Q R held failed = failed

of-object : (gave_up : Type 0) (members : Members) (text : List ℕ) → IsObjectReply gave_up members text → IsLine text
unfolding IsObjectReply
of-object gave_up members text =
    by-option (get_member (codes "id") members) _ _ (IsLine text) (of-bare gave_up members text) (λ value has.
    by-option (id_text value) _ _ (IsLine text) (λ is. same is (of-told WrongField (Some (codes "id")) (fixed (codes "id") refl))) (λ id told replies.
    same replies.2 (of-named id replies.0 (of-id value id told) (of-bare gave_up (without (codes "id") members) replies.0 replies.1))))

of-unread : (line text : List ℕ) → IsUnreadReply line text → IsLine text
unfolding IsUnreadReply
of-unread line text (inl (none, is)) = same is (of-explained (fault_number NotAnObject) None (words_of_line line) tt (of-line-words line))
of-unread line text (inr (some, is)) = same is (of-told OutOfMemory None tt)

of-read : (gave_up : Type 0) (line text : List ℕ) → ((members : Members) × (object_of line ≡ Some members) × IsObjectReply gave_up members text) ⊎ IsUnreadReply line text → IsLine text
of-read gave_up line text (inl (members, reads, replies)) = of-object gave_up members text replies
of-read gave_up line text (inr unread) = of-unread line text unread

pub explained-is-line : (gave_up : Type 0) (line text : List ℕ) → IsExplained gave_up line text → is_one_line text ≡ true
unfolding IsExplained
explained-is-line gave_up line text replies =
    (by-test (nat_lt longest_line (length line)) _ _ (IsLine text) (λ is. same is (of-told LineTooLong None tt)) (of-read gave_up line text) replies).holds
