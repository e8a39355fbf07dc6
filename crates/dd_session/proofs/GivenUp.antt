-- The jobs of a pass are given up, one after the other.
use Rattle.std.proofs.Common.{◌≡◌, ℕ, zero, suc, ◌+◌, ◌<◌, ◌≤◌, List, [], ◌∷◌, ◌++◌, length, length-append, drop, Option, None, Some, Ok, Err, inl, inr, refl, sym, ap, ◌∙◌, subst, arith, append_assoc, append-nil, true}
use Rattle.std.specs.Prelude.{Contains, MatchOption, slice_get}
use Rattle.std.proofs.lemmas.List.{drop-append-le}
use Rattle.dd_book.specs.declared.call.Call.TheVariants as call
use Rattle.dd_book.specs.declared.call.Reply.{Reply}
use Rattle.dd_book.specs.Limits.{LimitsOf}
use Rattle.dd_book.specs.Jobs.{own_job}
use Rattle.dd_desk.specs.declared.fault.DeskFault.{DeskFault}
use Rattle.dd_desk.specs.Looks.{IsToldIfOpen, SeesEnd, is_ended_job}
use Rattle.dd_desk.specs.Events.{EventOf, replay}
use Rattle.dd_desk.specs.Receipts.{HasReceipts, PassOf, ReceiptOf, pass_of, receipt}
use Rattle.dd_lines.specs.CountedDevices.{one_more}
use Rattle.dd_session.specs.GivingUp.{GivesUpAt, SeesAt}
use Rattle.dd_session.specs.Leaving.{GivesUp, JobSight, Ended, Refused, Leaves, RefusedCancel, SawAt, made_by, own_jobs}
use Rattle.dd_session.specs.Ports.{AreClients, Exchange, port_of, count_more, told_in, told_of}
use Rattle.dd_session.proofs.Gaining.{count_more-add}
use Rattle.dd_session.proofs.Telling.{AreClients-append, told_in-append}
use Rattle.dd_book.proofs.CallerLemmas.{cons-parts}

-- ---- the jobs that calls made

own_jobs-append : (told more : List Exchange) → own_jobs (told ++ more) ≡ own_jobs told ++ own_jobs more
own_jobs-append [] more = refl
own_jobs-append (t ∷ told) more =
    ap (λ (l : List ℕ). made_by t.0 t.1 ++ l) (own_jobs-append told more) ∙ sym (append_assoc (made_by t.0 t.1) (own_jobs told) (own_jobs more))

-- those from a receipt on: of this receipt, and of those behind it
abbrev pub Splits : List ReceiptOf → ℕ → ReceiptOf → Type 0
Splits rs place r = own_jobs (told_in (drop place rs)) ≡ own_jobs (told_of r.call r.reply) ++ own_jobs (told_in (drop (suc place) rs))

splits-at : (rs gained : List ReceiptOf) (place : ℕ) → place < length rs → MatchOption (slice_get (rs ++ gained) place) ⊥ (λ r. Splits rs place r)
splits-at [] gained place within = absurd (omega (arith, within))
splits-at (r ∷ rs) gained zero within = own_jobs-append (told_of r.call r.reply) (told_in rs)
splits-at (r ∷ rs) gained (suc place) within = splits-at rs gained place (omega (arith, within))

-- ---- over a port

-- an element of the rest of a list
in-tail : (x : ℕ) (xs : List ℕ) (y : ℕ) → Contains xs y → Contains (x ∷ xs) y
in-tail x xs y (place, within, is) = (suc place, omega (arith, within), is)

-- the job that was seen
abbrev job_of : JobSight → ℕ
job_of (Ended job) = job
job_of (Refused job) = job

-- some jobs are given up, and then more
gives-up-more : (saw : JobSight → Type 0) (jobs more : List ℕ) (news later : List Exchange) (refused others : ℕ) → GivesUp saw jobs news refused → GivesUp saw more later others
    → GivesUp saw (jobs ++ more) (news ++ later) (refused + others)
gives-up-more saw [] more news later refused others (none, count) rest =
    let sum : others ≡ refused + others = omega (arith, count) in
    subst (λ (l : List Exchange). GivesUp saw more (l ++ later) (refused + others)) (sym none) (subst (λ (n : ℕ). GivesUp saw more later n) sum rest)
gives-up-more saw (job ∷ jobs) more news later refused others (inl (has, gives)) rest =
    inl (has, gives-up-more saw jobs more news later refused others gives rest)
gives-up-more saw (job ∷ jobs) more news later refused others (inr (inl (reply, after, finds, told, gives))) rest =
    inr (inl (reply, after ++ later, finds, ap (λ (l : List Exchange). l ++ later) told, gives-up-more saw jobs more after later refused others gives rest))
gives-up-more saw (job ∷ jobs) more news later refused others (inr (inr (fewer, count, denied, gives))) rest =
    inr (inr (fewer + others, omega (arith, count), denied, gives-up-more saw jobs more news later fewer others gives rest))

-- what is known of the jobs that have ended may be told otherwise
gives-up-as : (saw others : JobSight → Type 0) (jobs : List ℕ) (news : List Exchange) (refused : ℕ) → ((sight : JobSight) → Contains jobs (job_of sight) → saw sight → others sight)
    → GivesUp saw jobs news refused → GivesUp others jobs news refused
gives-up-as saw others [] news refused turn gives = gives
gives-up-as saw others (job ∷ jobs) news refused turn (inl (has, gives)) =
    inl (turn (Ended job) (0, omega arith, refl) has, gives-up-as saw others jobs news refused (λ j in'. turn j (in-tail job jobs (job_of j) in')) gives)
gives-up-as saw others (job ∷ jobs) news refused turn (inr (inl (reply, after, finds, told, gives))) =
    inr (inl (reply, after, finds, told, gives-up-as saw others jobs after refused (λ j in'. turn j (in-tail job jobs (job_of j) in')) gives))
gives-up-as saw others (job ∷ jobs) news refused turn (inr (inr (fewer, count, denied, gives))) =
    inr (inr (fewer, count, turn (Refused job) (0, omega arith, refl) denied, gives-up-as saw others jobs news fewer (λ j in'. turn j (in-tail job jobs (job_of j) in')) gives))

-- the jobs of the receipts before this place are given up: whatever gives up the others, gives up all from the first on
pub record GoesOver (limits : LimitsOf) (start : PassOf) (first count place : ℕ) (now : PassOf) (counted : ℕ) : Type 0 where
  pub gained : List ReceiptOf
  pub receipts : now.receipts ≡ start.receipts ++ gained
  pub more : (after : PassOf) (total : ℕ) → GivesUpAt limits (own_jobs (told_in (drop place start.receipts))) now counted after total
      → GivesUpAt limits (own_jobs (told_in (drop first start.receipts))) start count after total

-- what is left behind the last place
drop-whole : (rs : List ReceiptOf) (n : ℕ) → n ≡ length rs → drop n rs ≡ []
drop-whole [] zero is = refl
drop-whole [] (suc n) is = absurd (omega (arith, is))
drop-whole (r ∷ rs) zero is = absurd (omega (arith, is))
drop-whole (r ∷ rs) (suc n) is = drop-whole rs n (omega (arith, is))

-- ---- what a desk showed

-- of the receipts that stand in a journal the first ones do
has-first : (journal : List EventOf) (number : ℕ) (rs more : List ReceiptOf) → HasReceipts journal (pass_of number (rs ++ more)) → HasReceipts journal (pass_of number rs)
has-first journal number [] more has = refl
has-first journal number (r ∷ rs) more has =
    let p = cons-parts _ _ _ _ has in
    λ i. p.0 i ∷ has-first journal number rs more p.1 i

-- what it showed to a pass it showed to the pass as it was before
sees-first : (limits : LimitsOf) (before mid : PassOf) (gained : List ReceiptOf) (job : ℕ) → mid.number ≡ before.number → mid.receipts ≡ before.receipts ++ gained → SeesEnd limits mid job → SeesEnd limits before job
sees-first limits before mid gained job number receipts s =
    record {
      journal = s.journal;
      legal = s.legal;
      was = s.was;
      has = has-first s.journal before.number before.receipts gained (subst (HasReceipts s.journal) (λ i. pass_of (number i) (receipts i)) s.has);
      sees = subst (λ (n : ℕ). is_ended_job (own_job (replay limits s.journal).jobs n job) ≡ true) number s.sees;
    }

-- so of each job that is given up
sees-first-of : (limits : LimitsOf) (before mid : PassOf) (gained : List ReceiptOf) → mid.number ≡ before.number → mid.receipts ≡ before.receipts ++ gained → (sight : JobSight) → SeesAt limits mid sight → SeesAt limits before sight
sees-first-of limits before mid gained number receipts (Ended job) sees = sees-first limits before mid gained job number receipts sees
sees-first-of limits before mid gained number receipts (Refused job) denied = subst (λ (n : ℕ). RefusedCancel limits n job) number denied

-- what was seen before, once it was given up
saw-then : (limits : LimitsOf) (before after : PassOf) (n : ℕ) (gained : List ReceiptOf) → after.number ≡ before.number → after.receipts ≡ before.receipts ++ gained → (sight : JobSight)
    → Contains (own_jobs (told_in (drop n before.receipts))) (job_of sight) → SeesAt limits before sight → SawAt limits n after sight
saw-then limits before after n gained number receipts (Ended job) in' sees = record { seen = before; later = gained; same = λ i. pass_of (number i) (receipts i); made = in'; sees = sees }
saw-then limits before after n gained number receipts (Refused job) in' denied = subst (λ (k : ℕ). RefusedCancel limits k job) (sym number) denied

-- ---- by a pass

module _ {limits : LimitsOf} where
  -- no job
  pub gives-none : (pass : PassOf) (count : ℕ) → GivesUpAt limits [] pass count pass count
  gives-none pass count =
      record { number = refl; gained = []; receipts = sym (append-nil pass.receipts); clients = tt; refused = 0; gives_up = (refl, refl); counts = refl }

  -- one job that has ended, or whose cancel was told
  pub gives-one : (before after : PassOf) (job count : ℕ) (told : Option Reply) → IsToldIfOpen limits before job (Ok told) after → GivesUpAt limits (job ∷ []) before count after count
  gives-one before after job count None (ends, same) =
      record {
        number = ap (λ (p : PassOf). p.number) same;
        gained = [];
        receipts = ap (λ (p : PassOf). p.receipts) same ∙ sym (append-nil before.receipts);
        clients = tt;
        refused = 0;
        gives_up = inl (ends, (refl, refl));
        counts = refl;
      }
  gives-one before after job count (Some reply) (answered, finds) =
      record {
        number = ap (λ (p : PassOf). p.number) answered.gained;
        gained = receipt (length answered.journal) (call.Cancel before.number job) reply ∷ [];
        receipts = ap (λ (p : PassOf). p.receipts) answered.gained;
        clients = (refl, refl, tt);
        refused = 0;
        gives_up = inr (inl (reply, [], finds, refl, (refl, refl)));
        counts = refl;
      }

  -- one whose cancel was refused
  pub refuses-one : (before after : PassOf) (job count counted : ℕ) (fault : DeskFault) → IsToldIfOpen limits before job (Err fault) after → counted ≡ one_more count
      → GivesUpAt limits (job ∷ []) before count after counted
  refuses-one before after job count counted fault (of_call, same, refused) more =
      record {
        number = ap (λ (p : PassOf). p.number) same;
        gained = [];
        receipts = ap (λ (p : PassOf). p.receipts) same ∙ sym (append-nil before.receipts);
        clients = tt;
        refused = 1;
        gives_up = inr (inr (0, refl, (fault, (refused.journal, refused.was)), (refl, refl)));
        counts = more;
      }

  -- some jobs, and then more
  gives-more : (jobs more : List ℕ) (before mid after : PassOf) (count between counted : ℕ) → GivesUpAt limits jobs before count mid between → GivesUpAt limits more mid between after counted
      → GivesUpAt limits (jobs ++ more) before count after counted
  gives-more jobs more before mid after count between counted first then =
      record {
        number = then.number ∙ first.number;
        gained = first.gained ++ then.gained;
        receipts = then.receipts ∙ ap (λ (l : List ReceiptOf). l ++ then.gained) first.receipts ∙ append_assoc before.receipts first.gained then.gained;
        clients = AreClients-append before.number first.gained then.gained first.clients (subst (λ (k : ℕ). AreClients k then.gained) first.number then.clients);
        refused = first.refused + then.refused;
        gives_up = subst (λ (t : List Exchange). GivesUp (SeesAt limits before) (jobs ++ more) t (first.refused + then.refused)) (sym (told_in-append first.gained then.gained))
            (gives-up-more (SeesAt limits before) jobs more (told_in first.gained) (told_in then.gained) first.refused then.refused first.gives_up
            (gives-up-as (SeesAt limits mid) (SeesAt limits before) more (told_in then.gained) then.refused (λ sight in'. sees-first-of limits before mid first.gained first.number first.receipts sight) then.gives_up));
        counts = then.counts ∙ ap (λ (n : ℕ). count_more n then.refused) first.counts ∙ count_more-add count first.refused then.refused;
      }

  -- ---- one receipt after the other
  -- at the first place
  pub goes-start : (start : PassOf) (first count : ℕ) → GoesOver limits start first count first start count
  goes-start start first count = record { gained = []; receipts = sym (append-nil start.receipts); more = λ after total gives. gives }

  -- one place further
  goes-step : (start : PassOf) (first count place : ℕ) (now after : PassOf) (counted total : ℕ) (r : ReceiptOf) → GoesOver limits start first count place now counted → Splits start.receipts place r
      → GivesUpAt limits (own_jobs (told_of r.call r.reply)) now counted after total → GoesOver limits start first count (place + 1) after total
  goes-step start first count place now after counted total r over splits gives =
      let next : suc place ≡ place + 1 = omega arith in
      record {
        gained = over.gained ++ gives.gained;
        receipts = gives.receipts ∙ ap (λ (l : List ReceiptOf). l ++ gives.gained) over.receipts ∙ append_assoc start.receipts over.gained gives.gained;
        more = λ later sum rest. over.more later sum (subst (λ (jobs : List ℕ). GivesUpAt limits jobs now counted later sum) (sym splits)
            (gives-more (own_jobs (told_of r.call r.reply)) (own_jobs (told_in (drop (suc place) start.receipts))) now after later counted total sum gives
            (subst (λ (n : ℕ). GivesUpAt limits (own_jobs (told_in (drop n start.receipts))) after total later sum) (sym next) rest)));
      }

  pub goes-further : (start : PassOf) (first count place : ℕ) (now after : PassOf) (counted total : ℕ) → place < length start.receipts → GoesOver limits start first count place now counted
      → MatchOption (slice_get now.receipts place) ⊥ (λ r. GivesUpAt limits (own_jobs (told_of r.call r.reply)) now counted after total) → GoesOver limits start first count (place + 1) after total
  goes-further start first count place now after counted total within over gives =
      go (slice_get now.receipts place) (subst (λ (rs : List ReceiptOf). MatchOption (slice_get rs place) ⊥ (λ r. Splits start.receipts place r)) (sym over.receipts) (splits-at start.receipts over.gained place within)) gives
    where
      go : (found : Option ReceiptOf) → MatchOption found ⊥ (λ r. Splits start.receipts place r) → MatchOption found ⊥ (λ r. GivesUpAt limits (own_jobs (told_of r.call r.reply)) now counted after total)
          → GoesOver limits start first count (place + 1) after total
      go None none some = absurd none
      go (Some r) splits some = goes-step start first count place now after counted total r over splits some

  -- at the end
  pub goes-end : (start : PassOf) (first count place : ℕ) (now : PassOf) (counted : ℕ) → place ≡ length start.receipts → GoesOver limits start first count place now counted
      → GivesUpAt limits (own_jobs (told_in (drop first start.receipts))) start count now counted
  goes-end start first count place now counted end over =
      over.more now counted (subst (λ (rs : List ReceiptOf). GivesUpAt limits (own_jobs (told_in rs)) now counted now counted) (sym (drop-whole start.receipts place end)) (gives-none now counted))

  -- ---- and what the port then tells

  pub Leaves-desk : (before after : PassOf) (n count counted : ℕ) → n ≤ length before.receipts → GivesUpAt limits (own_jobs (told_in (drop n before.receipts))) before count after counted
      → Leaves (SawAt limits n after) (port_of (told_in (drop n before.receipts)) count) (port_of (told_in (drop n after.receipts)) counted)
  Leaves-desk before after n count counted within gives = (
    told_in gives.gained,
    gives.refused,
    gives-up-as (SeesAt limits before) (SawAt limits n after) (own_jobs (told_in (drop n before.receipts))) (told_in gives.gained) gives.refused
        (saw-then limits before after n gives.gained gives.number gives.receipts) gives.gives_up,
    ap (λ (l : List Exchange). port_of l counted)
        (ap (λ (rs : List ReceiptOf). told_in (drop n rs)) gives.receipts
        ∙ ap told_in (drop-append-le n before.receipts gives.gained within)
        ∙ told_in-append (drop n before.receipts) gives.gained)
        ∙ ap (λ (k : ℕ). port_of (told_in (drop n before.receipts) ++ told_in gives.gained) k) gives.counts,
  )

-- a pass that gives up jobs gains clients' calls alone
pub clients-given-up : {limits : LimitsOf} (before after : PassOf) (n count counted : ℕ) (jobs : List ℕ) → n ≤ length before.receipts → AreClients before.number (drop n before.receipts)
    → GivesUpAt limits jobs before count after counted → AreClients after.number (drop n after.receipts)
clients-given-up before after n count counted jobs within clients gives =
    subst (λ (k : ℕ). AreClients k (drop n after.receipts)) (sym gives.number)
    (subst (AreClients before.number) (sym (ap (λ (rs : List ReceiptOf). drop n rs) gives.receipts ∙ drop-append-le n before.receipts gives.gained within))
    (AreClients-append before.number (drop n before.receipts) gives.gained clients gives.clients))

-- and the invariant of its port stays
pub keeps_given_up : {limits : LimitsOf} (before after : PassOf) (n count counted : ℕ) (jobs : List ℕ) → n ≤ length before.receipts → AreClients before.number (drop n before.receipts)
    → GivesUpAt limits jobs before count after counted → (n ≤ length after.receipts) × AreClients after.number (drop n after.receipts)
keeps_given_up before after n count counted jobs within clients gives =
    let longer : length after.receipts ≡ length before.receipts + length gives.gained = ap (λ (rs : List ReceiptOf). length rs) gives.receipts ∙ length-append before.receipts gives.gained in
    (omega (arith, within, longer), clients-given-up before after n count counted jobs within clients gives)

-- a receipt that made none
pub gives-nothing : (limits : LimitsOf) (found : Option ReceiptOf) (pass : PassOf) (count : ℕ) → MatchOption found ⊥ (λ r. own_jobs (told_of r.call r.reply) ≡ [])
    → MatchOption found ⊥ (λ r. GivesUpAt limits (own_jobs (told_of r.call r.reply)) pass count pass count)
gives-nothing limits None pass count none = absurd none
gives-nothing limits (Some r) pass count none = subst (λ (jobs : List ℕ). GivesUpAt limits jobs pass count pass count) (sym none) (gives-none pass count)
