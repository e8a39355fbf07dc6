-- A line has one reply where none is given up, but where memory ran out.
use Rattle.std.proofs.Common.{◌≡◌, ◌∙◌, ◌⊎◌, ℕ, ℤ, Bool, true, false, inl, inr, sym, ap, subst, List, Option, None, Some}
use Rattle.std.specs.Prelude.{codes, length, nat_lt, MatchOption, Result, Ok, Err}
use Rattle.std.specs.Bool.{MatchBool}
use Rattle.serde_json.specs.Data.{Members}
use Rattle.serde_json.specs.Find.{get_member}
use Rattle.dd_cards.specs.declared.seat.Seat.{Seat}
use Rattle.dd_cards.specs.declared.side.Side.{Side}
use Rattle.dd_cards.specs.declared.side.Side.TheVariants.{NorthSouth, EastWest}
use Rattle.dd_lines.specs.Line.{longest_line}
use Rattle.dd_score.specs.Auctions.{opened_by}
use Rattle.dd_score.specs.declared.order.Order.{Order}
use Rattle.dd_score.specs.declared.order.Order.TheVariants.{Dealer, First}
use Rattle.dd_score.specs.declared.vulnerable.Vulnerable.{Vulnerable}
use Rattle.dd_score.specs.ParContracts.{par_contracts}
use Rattle.dd_score.specs.Values.{HasOneValue, IsBetterOf, IsPar, better}
use Rattle.dd_request.specs.Results.{results}
use Rattle.dd_wire.specs.declared.fault.Fault.{Fault}
use Rattle.dd_wire.specs.declared.fault.Fault.TheVariants.{OutOfMemory}
use Rattle.dd_wire.specs.declared.line_asked.LineAsked.{LineAsked}
use Rattle.dd_wire.specs.declared.line_asked.LineAsked.TheVariants.{Cards, Par, ParOfDeal}
use Rattle.dd_wire.specs.declared.par_request.Conditions.{Conditions}
use Rattle.dd_wire.specs.Explained.{IsBareReply, IsBareReplyTo, IsExplained, IsObjectReply, IsReplyWithId, IsUnreadReply, MeansBare}
use Rattle.dd_wire.specs.FaultWords.{fault_told}
use Rattle.dd_wire.specs.Ids.{id_text, with_id, without}
use Rattle.dd_wire.specs.LineReplies.{AreOneBut, IsAnswer, IsReply, IsReplyTo}
use Rattle.dd_wire.specs.ParReplies.{TellsPar, par_text, rows_of}
use Rattle.dd_wire.specs.Replies.{fault_text}
use Rattle.dd_wire.specs.Requests.{object_of, wait_at}
use Rattle.dd_wire.proofs.LineMeanings.{one-meaning, one-members}
use Rattle.dd_wire.proofs.OneMeaning.{both, one-by-option}

-- at most one text is such
abbrev OneText : (List ℕ → Type 0) → Type 0
OneText Is = (a b : List ℕ) → Is a → Is b → a ≡ b

-- two texts that are the same one
both-are : (text : List ℕ) → OneText (λ a. a ≡ text)
both-are text a b is_a is_b = is_a ∙ sym is_b

text-by-option : {A : Type 0} (o : Option A) (P : List ℕ → Type 0) (Q : A → List ℕ → Type 0) → OneText P → ((x : A) → OneText (Q x)) → OneText (λ t. MatchOption o (P t) (λ x. Q x t))
text-by-option None P Q one_p one_q = one_p
text-by-option (Some x) P Q one_p one_q = one_q x

module _ (one : HasOneValue) where
  -- ---- par
  one-better : (table : List (List ℕ)) (vulnerable : Vulnerable) (side : Side) (first other : Seat) (x y : ℤ) → IsBetterOf table vulnerable side first other x
      → IsBetterOf table vulnerable side first other y → x ≡ y
  one-better table vulnerable side first other x y (x1, x2, is_x1, is_x2, e) (y1, y2, is_y1, is_y2, f) =
      e ∙ ap (λ k. better side k x2) (one table vulnerable (opened_by first) x1 y1 is_x1 is_y1) ∙ ap (λ k. better side y1 k) (one table vulnerable (opened_by other) x2 y2 is_x2 is_y2) ∙ sym f

  one-par : (table : List (List ℕ)) (vulnerable : Vulnerable) (order : Order) (x y : ℤ) → IsPar table vulnerable order x → IsPar table vulnerable order y → x ≡ y
  one-par table vulnerable (Dealer dealer) x y is_x is_y = one table vulnerable (opened_by dealer) x y is_x is_y
  one-par table vulnerable (First NorthSouth) x y is_x is_y = one-better table vulnerable NorthSouth _ _ x y is_x is_y
  one-par table vulnerable (First EastWest) x y is_x is_y = one-better table vulnerable EastWest _ _ x y is_x is_y

  one-par_text : (rows : List (List ℕ)) (c : Conditions) → OneText (TellsPar rows c)
  one-par_text rows c a b (x, is_x, e) (y, is_y, f) =
      e ∙ ap (λ s. par_text (par_contracts rows c.vulnerable c.order s) s) (one-par rows c.vulnerable c.order x y is_x is_y) ∙ sym f

  -- ---- a meaning has one reply
  one-answer : (asked : LineAsked) → OneText (IsAnswer asked)
  one-answer (Cards asked) = both-are _
  one-answer (Par par) = one-par_text par.results par.conditions
  one-answer (ParOfDeal par) = one-par_text (rows_of (results par.hands)) par.conditions

  one-reply_to : (meaning : Result LineAsked Fault) → OneText (IsReplyTo meaning)
  one-reply_to (Ok asked) = one-answer asked
  one-reply_to (Err fault) = both-are _

  -- ---- a line has one
  pub one-reply : (line a b : List ℕ) → IsReply ⊥ line a → IsReply ⊥ line b → AreOneBut (fault_text OutOfMemory) a b
  one-reply line a b (inl (m, means_m, is_a)) (inl (n, means_n, is_b)) =
      inl (one-reply_to n a b (subst (λ (k : Result LineAsked Fault). IsReplyTo k a) (one-meaning line m n means_m means_n) is_a) is_b)
  one-reply line a b (inr (inl memory)) reply = inr (inl memory.2)
  one-reply line a b (inl reply) (inr (inl memory)) = inr (inr memory.2)
  one-reply line a b (inr (inr spent)) reply = absurd spent.3
  one-reply line a b (inl reply) (inr (inr spent)) = absurd spent.3

  -- ---- and one explained
  one-bare_reply : (members : Members) (meaning : Result LineAsked Fault) → OneText (IsBareReplyTo members meaning)
  one-bare_reply _ (Ok asked) = one-answer asked
  one-bare_reply members (Err fault) = both-are _

  one-bare_meaning : (members : Members) (m n : Result LineAsked Fault) → MeansBare members m → MeansBare members n → m ≡ n
  unfolding MeansBare
  one-bare_meaning members = one-by-option (wait_at members) _ _ (both _) (λ wait. one-members members)

  one-bare : (members : Members) → OneText (IsBareReply ⊥ members)
  unfolding IsBareReply
  one-bare members a b (inl (m, means_m, is_a)) (inl (n, means_n, is_b)) =
      one-bare_reply members n a b (subst (λ (k : Result LineAsked Fault). IsBareReplyTo members k a) (one-bare_meaning members m n means_m means_n) is_a) is_b
  one-bare members a b (inr spent) reply = absurd spent.3
  one-bare members a b (inl reply) (inr spent) = absurd spent.3

  one-with_id : (members : Members) (id : List ℕ) → OneText (IsReplyWithId ⊥ members id)
  one-with_id members id a b (x, is_x, e) (y, is_y, f) = e ∙ ap (with_id id) (one-bare (without (codes "id") members) x y is_x is_y) ∙ sym f

  one-object : (members : Members) → OneText (IsObjectReply ⊥ members)
  unfolding IsObjectReply
  one-object members =
      text-by-option (get_member (codes "id") members) _ _ (one-bare members) (λ value.
      text-by-option (id_text value) _ _ (both-are _) (λ id. one-with_id members id))

  -- a line that is not too long
  abbrev IsShortReply : List ℕ → List ℕ → Type 0
  IsShortReply line text = ((members : Members) × (object_of line ≡ Some members) × IsObjectReply ⊥ members text) ⊎ IsUnreadReply line text

  one-short : (line a b : List ℕ) → IsShortReply line a → IsShortReply line b → AreOneBut (fault_told OutOfMemory None) a b
  unfolding IsUnreadReply
  one-short line a b (inl (m, is_m, is_a)) (inl (n, is_n, is_b)) =
      let same : m ≡ n = cc in
      inl (one-object n a b (subst (λ (k : Members). IsObjectReply ⊥ k a) same is_a) is_b)
  one-short line a b (inl (m, is_m, is_a)) (inr (inl (none, is_b))) = absurd cc
  one-short line a b (inr (inl (none, is_a))) (inl (n, is_n, is_b)) = absurd cc
  one-short line a b (inr (inl (none_a, is_a))) (inr (inl (none_b, is_b))) = inl (is_a ∙ sym is_b)
  one-short line a b (inr (inr memory)) reply = inr (inl memory.1)
  one-short line a b (inl reply) (inr (inr memory)) = inr (inr memory.1)
  one-short line a b (inr (inl reply)) (inr (inr memory)) = inr (inr memory.1)

  by-length : (t : Bool) (said a b text : List ℕ) (P : List ℕ → Type 0) → (P a → P b → AreOneBut said a b) → MatchBool t (a ≡ text) (P a) → MatchBool t (b ≡ text) (P b) → AreOneBut said a b
  by-length true said a b text P one_p is_a is_b = inl (is_a ∙ sym is_b)
  by-length false said a b text P one_p is_a is_b = one_p is_a is_b

  pub one-explained : (line a b : List ℕ) → IsExplained ⊥ line a → IsExplained ⊥ line b → AreOneBut (fault_told OutOfMemory None) a b
  unfolding IsExplained
  one-explained line a b is_a is_b = by-length (nat_lt longest_line (length line)) (fault_told OutOfMemory None) a b _ (IsShortReply line) (one-short line a b) is_a is_b
