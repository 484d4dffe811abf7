-- `party::Party::take_shares` meets its contract: each return is one outcome of step 4, by the cause, by whether the party is
-- happy, by what was taken from the inbox and by the answer of the packet writer. Assumes nothing.
use Rattle.std.proofs.Common.{◌≡◌, true, false, Some, Option, List, [], ℕ, ◌+◌, ◌-◌, length, take, drop, replicate, refl, sym, ap, subst, ◌∙◌, arith, rules}
use mathlib.Core.Path.{ap₂}
use lib.Seq.{take_at}
use Rattle.sha256.specs.Sha256.{sha256}
use Rattle.limits.specs.Limits.{max_share, max_path}
use Rattle.buffer.specs.Splice.{put_of}
use Rattle.buffer.specs.Entries.{bodies}
use Rattle.buffer.specs.Given.{written}
use Rattle.buffer.proofs.Parts.{length_part, part-ends}
use Rattle.merkle.specs.Shares.{blank}
use Rattle.packet.specs.Format.{hashes, packet_of}
use Rattle.packet.specs.Answer.{path_at, write_of}
use Rattle.packet.specs.declared.Share.{Share}
use Rattle.packet.proofs.Path.{padded as path-padded, path-there, length-hashes}
use Rattle.commitment.specs.Commitment.{mail_with}
use Rattle.party.specs.State.{padded, message_in, at_second}
use Rattle.party.specs.State.{happy as party-happy, waiting}
use Rattle.party.specs.Steps.{inbox_cause, faulty_shares, Taken, taken_by, share_taken, packet_taken}
use Rattle.party.specs.Steps.{writes, take_shares_of}
use Rattle.party.specs.Private.{Fit, TakenIs}
use Rattle.party.specs.declared.Party.{Party}
use Rattle.party.specs.declared.Stage.TheVariants.{Second}
use Rattle.party.proofs.Causes.{state-fit, inbox-sound}
use Rattle.party.proofs.Outcomes.{shares-happy, shares-taken, writes_nothing, writes-given}
use Rattle.party.proofs.Refused.{refused-shares}
use Rattle.party.proofs.Kept.{put-padded, waits_on}
use Rattle.party.proofs.Silence.{relay-mail}
use Rattle.party.proofs.Taking.{passed, write-taken, taken_none, Got, got_of}
use Rattle.party.proofs.Party.take_shares.Goals as goal

fit : (x : Party) (s : List ℕ) → 0 ≡ inbox_cause 4 x s → Fit x
fit x s e = state-fit 4 x (inbox-sound 4 x s (sym e)).0

-- the state at the next stage, with a share
abbrev Next : Party → List ℕ → List ℕ → Party
Next x s y = at_second x.seat (message_in x) x.root y (faulty_shares sha256 x s)

next : (x : Party) (s share : List ℕ) (y : Party) (f : ℕ) → f ≡ faulty_shares sha256 x s → y ≡ waiting x.seat Second (message_in x) x.root share f
    → y ≡ Next x s share
unfolding at_second
next x s share y f q e = e ∙ ap (waiting x.seat Second (message_in x) x.root share) q

-- a happy party relays its own share
relays : (x : Party) (s out : List ℕ) (y : Party) → 0 ≡ inbox_cause 4 x s → party-happy sha256 x ≡ true → y ≡ Next x s []
    → writes x y (mail_with sha256 x.seat.session true x.seat.n x.seat.t x.seat.own (message_in x)) out ≡ take_shares_of sha256 x s out
relays x s out y fine h e =
    ap₂ (λ (y : Party) (bs : List ℕ). writes x y bs out) e (sym (relay-mail sha256 x)) ∙ sym (shares-happy sha256 x s out (sym fine) h)

-- where a share was found
module _ (x : Party) (s : List ℕ) (f : Fit x) (o : Option Share) (p : Share) (is : o ≡ Some p) (taken : TakenIs o (taken_by sha256 x s) s) where
  got : Got sha256 x.seat.session x.seat.n x.seat.own x.root s p.from p.len p.count (taken_by sha256 x s)
  got =
      got_of sha256 x.seat.session x.seat.n x.seat.own x.root s p.from p.len p.count p.number (taken_by sha256 x s)
      (subst (λ (q : Option Share). TakenIs q (taken_by sha256 x s) s) is taken)
      (passed sha256 x.seat.session x.seat.n x.seat.own x.root 1 (bodies x.seat.n s))

  -- the share, the hashes of its path, and the packet
  abbrev Y : List ℕ
  Y = take p.len (drop p.from s)

  abbrev Q : List ℕ
  Q = drop (p.from + p.len) s

  size : length Y ≡ p.len
  size = length_part s p.from p.len (omega (arith, got.inside))

  kept : put_of (replicate max_share 0) 0 (take (p.from + p.len - p.from) (drop p.from s)) ≡ padded max_share Y
  kept =
      ap (put_of (replicate max_share 0) 0) (part-ends s p.from p.len)
      ∙ put-padded max_share Y (omega (arith, size, got.most))

  wrote : (path : List (List ℕ)) (out : List ℕ) → path ≡ path_at s (p.from + p.len) p.count
      → write_of x.seat.n x.seat.own (take (p.from + p.len - p.from) (drop p.from s)) path p.count out
      ≡ written (packet_of x.seat.own Y (hashes p.count Q)) out
  wrote path out e =
      ap₂ (λ (y : List ℕ) (q : List (List ℕ)). write_of x.seat.n x.seat.own y q p.count out) (part-ends s p.from p.len)
      (e ∙ path-there s (p.from + p.len) p.count got.few got.inside)
      ∙ write-taken sha256 x.seat.session x.seat.n x.seat.own x.root Y (hashes p.count Q) (path-padded p.count Q) p.count out
      f.low f.high f.first f.last (omega (arith, size, got.some)) (omega (arith, size, got.most)) (length-hashes p.count Q)
      (take_at (hashes p.count Q) (replicate (max_path - p.count) blank) p.count (length-hashes p.count Q)) got.leads

pub returns-in-Err : goal.returns-in-Err
returns-in-Err c = rw c.refused.ensures (refused-shares sha256 c.in-Err.cause c.args.self c.args.inbox.now c.args.out.now c.in-Err.ensures)

pub judge_shares-taken-requires : goal.judge_shares-taken-requires
judge_shares-taken-requires c =
    (fit c.args.self c.args.inbox.now c.in_default.ensures, (inbox-sound 4 c.args.self c.args.inbox.now (sym c.in_default.ensures)).1)

pub waiting-next-requires : goal.waiting-next-requires
waiting-next-requires c = (fit c.args.self c.args.inbox.now c.in_default.ensures).short

pub send-sent-requires : goal.send-sent-requires
send-sent-requires c = fit c.args.self c.args.inbox.now c.in_default.ensures

pub returns-in-Some : goal.returns-in-Some
returns-in-Some c =
    let x = c.args.self in
    let s = c.args.inbox.now in
    let f = fit x s c.in_default.ensures in
    rw c.after.ensures (writes-given x c.waiting-next.result _ c.args.out.now c.in-Some.written c.send-sent.new.out c.in-Some.ensures.1)
    ∙ relays x s c.args.out.now c.waiting-next.result c.in_default.ensures c.in-Some.ensures.0
    (next x s [] c.waiting-next.result _ c.judge_shares-taken.ensures.1
    (c.waiting-next.ensures ∙ waits_on x Second _ x.root _ [] 0 _ f.short (search rules) refl refl refl))

-- a party that is not happy goes by what was taken
taking : (x : Party) (s out : List ℕ) (y : Party) (t : Taken) → 0 ≡ inbox_cause 4 x s → party-happy sha256 x ≡ false → taken_by sha256 x s ≡ t
    → y ≡ Next x s (share_taken t) → writes x y (packet_taken x t) out ≡ take_shares_of sha256 x s out
taking x s out y t fine h is e =
    ap (λ (z : Party). writes x z (packet_taken x t) out) e
    ∙ sym (shares-taken sha256 x s out (sym fine) h ∙ ap (λ (t : Taken). writes x (Next x s (share_taken t)) (packet_taken x t) out) is)

pub returns-in_default-taken : goal.returns-in_default-taken
returns-in_default-taken c =
    let x = c.args.self in
    let s = c.args.inbox.now in
    let f = fit x s c.in_default.ensures in
    let y = c.waiting-next.result in
    let none = taken_none (taken_by sha256 x s) s
    (subst (λ (o : Option Share). TakenIs o (taken_by sha256 x s) s) c.in_default-taken.is c.judge_shares-taken.ensures.0) in
    rw c.after-in_default-taken.ensures (sym (writes_nothing x y c.send-sent.new.out))
    ∙ ap (writes x y []) c.in_default-sent.ensures.1
    ∙ taking x s c.args.out.now y _ c.in_default.ensures c.in_default-sent.ensures.0 none
    (next x s [] y _ c.judge_shares-taken.ensures.1
    (c.waiting-next.ensures ∙ waits_on x Second _ x.root _ [] 0 _ f.short (search rules) refl refl refl))

pub waiting-holding-requires : goal.waiting-holding-requires
waiting-holding-requires c = (fit c.args.self c.args.inbox.now c.in_default.ensures).short

pub overflow_add-end : goal.overflow_add-end
overflow_add-end c =
    let x = c.args.self in
    let s = c.args.inbox.now in
    omega (arith, (got x s (fit x s c.in_default.ensures) _ c.in-Some-taken.field-0 c.in-Some-taken.is c.judge_shares-taken.ensures.0).inside)

pub slice_bounds-put-end-2 : goal.slice_bounds-put-end-2
slice_bounds-put-end-2 c =
    let x = c.args.self in
    let s = c.args.inbox.now in
    omega (arith, (got x s (fit x s c.in_default.ensures) _ c.in-Some-taken.field-0 c.in-Some-taken.is c.judge_shares-taken.ensures.0).inside)

pub slice_bounds-write-end : goal.slice_bounds-write-end
slice_bounds-write-end c =
    let x = c.args.self in
    let s = c.args.inbox.now in
    omega (arith, (got x s (fit x s c.in_default.ensures) _ c.in-Some-taken.field-0 c.in-Some-taken.is c.judge_shares-taken.ensures.0).inside)

pub returns : goal.returns
returns c =
    let x = c.args.self in
    let s = c.args.inbox.now in
    let f = fit x s c.in_default.ensures in
    let p = c.in-Some-taken.field-0 in
    let is = c.in-Some-taken.is in
    let t = c.judge_shares-taken.ensures.0 in
    let share = Y x s f _ p is t in
    let y = c.waiting-holding.result in
    rw c.after-2.ensures (writes-given x y (packet_of x.seat.own share (hashes p.count (Q x s f _ p is t))) c.args.out.now c.write-written.result c.write-written.new.out
    (c.write-written.ensures
    ∙ ap (write_of x.seat.n x.seat.own (take (p.from + p.len - p.from) (drop p.from s)) c.path_at-path.result p.count) c.in_default-sent.ensures.1
    ∙ wrote x s f _ p is t c.path_at-path.result c.args.out.now c.path_at-path.ensures))
    ∙ taking x s c.args.out.now y _ c.in_default.ensures c.in_default-sent.ensures.0 (got x s f _ p is t).is
    (next x s share y _ c.judge_shares-taken.ensures.1
    (c.waiting-holding.ensures
    ∙ waits_on x Second _ x.root _ share p.len _ f.short (search rules) refl (c.put.ensures.1 ∙ kept x s f _ p is t) (sym (size x s f _ p is t))))
