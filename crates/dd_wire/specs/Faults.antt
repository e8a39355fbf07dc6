-- To be believed: the numbers of the faults of a line.
use Rattle.std.specs.Prelude.{ℕ}
use Rattle.dd_request.specs.declared.fault_numbers.TheConstants.{AFTER_LAST, CARD_TWICE, DEAL_TEXT, HAND_LEFT_OUT, LINE_TOO_LONG, NOT_AN_OBJECT, NOT_IN_HAND, NOT_THIRTEEN, NO_CARD, OUT_OF_MEMORY, REVOKE, UNEVEN_HANDS, WRONG_FIELD, WRONG_FIRST, WRONG_ORDER, WRONG_PLAYED, WRONG_RESULT, WRONG_SOLUTIONS, WRONG_TARGET, WRONG_TRUMP, WRONG_VULNERABLE}
use Rattle.dd_wire.specs.declared.fault.Fault.{Fault}
use Rattle.dd_wire.specs.declared.fault.Fault.TheVariants.{LineTooLong, NotAnObject, WrongField, DealText, HandLeftOut, CardTwice, WrongTrump, WrongFirst, WrongPlayed, WrongSolutions, WrongTarget, WrongOrder, WrongVulnerable, WrongResult, UnevenHands, NoCard, NotThirteen, AfterLast, NotInHand, Revoke, OutOfMemory}

-- the number of a fault in a reply
abbrev pub fault_number : Fault → ℕ
fault_number NotAnObject = NOT_AN_OBJECT
fault_number LineTooLong = LINE_TOO_LONG
fault_number WrongField = WRONG_FIELD
fault_number DealText = DEAL_TEXT
fault_number HandLeftOut = HAND_LEFT_OUT
fault_number CardTwice = CARD_TWICE
fault_number UnevenHands = UNEVEN_HANDS
fault_number NoCard = NO_CARD
fault_number WrongTrump = WRONG_TRUMP
fault_number WrongFirst = WRONG_FIRST
fault_number WrongPlayed = WRONG_PLAYED
fault_number WrongSolutions = WRONG_SOLUTIONS
fault_number WrongTarget = WRONG_TARGET
fault_number OutOfMemory = OUT_OF_MEMORY
fault_number WrongOrder = WRONG_ORDER
fault_number WrongVulnerable = WRONG_VULNERABLE
fault_number WrongResult = WRONG_RESULT
fault_number NotThirteen = NOT_THIRTEEN
fault_number AfterLast = AFTER_LAST
fault_number NotInHand = NOT_IN_HAND
fault_number Revoke = REVOKE
