-- What the crates above may cite of these proofs: they import nothing else of them.

-- ---- Every line has a meaning, and each meaning a reply.
-- every line has a meaning
pub use Rattle.dd_wire.proofs.LineMeanings.{some-meaning}
-- each meaning has a reply
pub use Rattle.dd_wire.proofs.LineMeanings.{some-answer}
-- every line has an explained reply
pub use Rattle.dd_wire.proofs.ExplainedReplies.{some-explained}
-- ---- Without leave no line wants a stop.
-- no line means that
pub use Rattle.dd_wire.proofs.NoStops.{no-stop-line}
-- nor where it may have an id
pub use Rattle.dd_wire.proofs.NoStops.{no-stop-explained}
-- ---- A line has one reply, where none is given up, and each reply is one line.
-- two are one, or one of them says that memory ran out
pub use Rattle.dd_wire.proofs.OneReply.{one-reply}
-- explained ones too
pub use Rattle.dd_wire.proofs.OneReply.{one-explained}
-- a reply is one line
pub use Rattle.dd_wire.proofs.OneLine.{reply-is-line}
-- an explained one too
pub use Rattle.dd_wire.proofs.OneLine.{explained-is-line}
