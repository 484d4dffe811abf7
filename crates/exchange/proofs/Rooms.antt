-- How long packets and inboxes are: a good party's packet is no longer than its slot, and those of bad ones stand in the plan, one after the
-- other. So an inbox of n entries has at most the exchange's bytes, and a slot and a length for each sender. By adding up along the
-- senders. Assumes nothing.
use mathlib.Core.Path.{◌≡◌, refl, ap, ap₂, ◌∙◌}
use mathlib.Core.Bool.{Bool, true, false, cond}
use mathlib.Core.List.{List, []}
use Prim.Native.Nat.{ℕ, zero, suc, ◌+◌, ◌-◌, ◌*◌, ◌≤◌, ◌<◌, min}
use native.Mathlib.Nat.{suc-mul}
use native.Mathlib.Omega.{arith}
use lib.Dec.{eqb}
use lib.ListN.{length, get_or, take, drop, length-append, length-take}
use Rattle.limits.proofs.Ranges.{parties-some, numbered_within}
use Rattle.buffer.specs.Splice.{spliced, tabulate}
use Rattle.buffer.specs.Entries.{entry_at}
use Rattle.buffer.specs.Given.{Given, gave, value_of}
use Rattle.buffer.specs.Given.{Written}
use Rattle.buffer.proofs.Splice.{length-spliced, take-spliced}
use Rattle.buffer.proofs.Places.{entry-within}
use Rattle.packet.specs.Format.{entry_of}
use Rattle.packet.specs.Inbox.{inbox_of}
use Rattle.packet.proofs.Inbox.{inbox-more}
use Rattle.packet.proofs.Parts.{entry-length}
use Rattle.bitmap.specs.Bitmap.{names}
use Rattle.plan.specs.Layout.{packet_from}
use Rattle.plan.proofs.Packets.{total, total-most, total-last, one-term, packet_length, packets-within}
use Rattle.exchange.specs.Exchange.{sent_to, inbox_to, slot_of, max_inbox, fill_of}
use Rattle.exchange.specs.Private.{Lawful, sent_by, inbox_by}
use Rattle.exchange.specs.declared.Mail.{Mail}
use Rattle.exchange.proofs.Sending.{fill_done}

-- sums: of a fixed number and one that varies, and of fewer parties
total-both : (k p c : ℕ) (f : ℕ → ℕ) → total k p (λ q. c + f q) ≡ k * c + total k p f
unfolding total
total-both zero p c f = omega arith
total-both (suc k) p c f = omega (arith, total-both k (p + 1) c f, suc-mul k c)

total-fewer : (k n p : ℕ) (f : ℕ → ℕ) → k ≤ n → total k p f ≤ total n p f
unfolding total
total-fewer zero n p f h = omega arith
total-fewer (suc k) zero p f h = absurd (omega arith)
total-fewer (suc k) (suc n) p f h = omega (arith, total-fewer k n (p + 1) f (omega arith))

-- the length of an inbox, by its packets
inbox-length : (F : ℕ → List ℕ) (k : ℕ) → length (inbox_of (tabulate k (λ j. F (j + 1)))) ≡ total k 1 (λ p. 2 + length (F p))
unfolding tabulate inbox_of total
inbox-length F zero = refl
inbox-length F (suc k) =
    let f : ℕ → List ℕ = λ j. F (j + 1) in
    let e : k + 1 ≡ 1 + k = omega arith in
    let last : length (F (k + 1)) ≡ length (F (1 + k)) = ap (λ (q : ℕ). length (F q)) e in
    omega (
      arith,
      ap length (inbox-more (tabulate k f) (f k)),
      length-append (inbox_of (tabulate k f)) (entry_of (f k)),
      entry-length (f k),
      inbox-length F k,
      total-last k 1 (λ p. 2 + length (F p)),
      last,
    )

-- what is in a slot
slot-short : (size : ℕ) (slots lens : List ℕ) (p : ℕ) → length (slot_of size slots lens p) ≤ size
unfolding slot_of
slot-short size slots lens p = omega (arith, length-take (min (get_or lens (p - 1) 0) size) (drop ((p - 1) * size) slots))

module _ (m : Mail) (slots lens blocks : List ℕ) (i : ℕ) where
  abbrev F : ℕ → List ℕ
  F p = sent_by m slots lens blocks i p

  abbrev P : ℕ → ℕ
  P p = packet_length m.n m.good i blocks p

  sent-length : (p : ℕ) → length (F p) ≤ m.size + P p
  unfolding sent_to packet_length
  sent-length p =
      let w : List ℕ = slot_of m.size slots lens p in
      go w (eqb p i) (names m.good p) m.whole (slot-short m.size slots lens p) (entry-within (i - 1) w)
    where
      go : (w : List ℕ) (a b c : Bool) → length w ≤ m.size → length (entry_at (i - 1) w) ≤ length w
          → length (cond a [] (cond b (cond c w (entry_at (i - 1) w)) (packet_from m.n m.good p i blocks)))
          ≤ m.size + cond b 0 (length (packet_from m.n m.good p i blocks))
      go w true b c h k = omega arith
      go w false true true h k = omega arith
      go w false true false h k = omega arith
      go w false false c h k = omega arith

  -- where neither a slot nor the exchange is longer than M, no packet is
  pub sent-within : (M p : ℕ) → 1 ≤ p → p ≤ m.n → m.size ≤ M → length blocks ≤ M → length (F p) ≤ M
  unfolding sent_to packet_length
  sent-within M p low high small few =
      let w : List ℕ = slot_of m.size slots lens p in
      go w (eqb p i) (names m.good p) m.whole (slot-short m.size slots lens p) (entry-within (i - 1) w)
      (omega (arith, one-term m.n 1 p P low (omega arith), packets-within m.n m.good i blocks))
    where
      go : (w : List ℕ) (a b c : Bool) → length w ≤ m.size → length (entry_at (i - 1) w) ≤ length w
          → cond b 0 (length (packet_from m.n m.good p i blocks)) ≤ M
          → length (cond a [] (cond b (cond c w (entry_at (i - 1) w)) (packet_from m.n m.good p i blocks))) ≤ M
      go w true b c h k l = omega arith
      go w false true true h k l = omega arith
      go w false true false h k l = omega arith
      go w false false c h k l = l

  -- an inbox, and the offset behind its first k + 1 entries
  pub inbox-short : length (inbox_by m slots lens blocks i) ≤ length blocks + m.n * (m.size + 2)
  unfolding inbox_to
  inbox-short =
      omega (
        arith,
        inbox-length F m.n,
        total-most m.n 1 (λ p. 2 + length (F p)) (λ p. m.size + 2 + P p) (λ q l h. omega (arith, sent-length q)),
        total-both m.n 1 (m.size + 2) P,
        packets-within m.n m.good i blocks,
      )

  pub inbox-room : (k : ℕ) → k < m.n → length (inbox_of (tabulate k (λ j. F (j + 1)))) + (2 + length (F (k + 1)))
      ≤ length blocks + m.n * (m.size + 2)
  unfolding inbox_to
  inbox-room k h =
      let e : 1 + k ≡ k + 1 = omega arith in
      omega (
        arith,
        inbox-short,
        inbox-length F m.n,
        inbox-length F k,
        total-last k 1 (λ p. 2 + length (F p)),
        ap (λ (q : ℕ). length (F q)) e,
        total-fewer (suc k) m.n 1 (λ p. 2 + length (F p)) (omega arith),
      )

  -- an inbox that is filled, for which there is no cause
  pub inbox-filled : Lawful m blocks i → (out : List ℕ) → max_inbox m.n m.size ≤ length out → (a : Written) (o : List ℕ)
      → gave a o ≡ fill_of m slots lens blocks i out → (value_of a ≤ length o) × (take (value_of a) o ≡ inbox_by m slots lens blocks i)
  inbox-filled l out room a o e =
      let x : List ℕ = inbox_by m slots lens blocks i in
      let w = e ∙ fill_done m slots lens blocks i out (parties-some m.n l.some l.few) (numbered_within m.n i l.first l.last)
      l.short room l.planned in
      let k : value_of a ≡ length x = ap (λ (y : Given). y.value) w in
      let there : o ≡ spliced out 0 x = ap (λ (y : Given). y.buffer) w in
      let fits : length x ≤ length out = omega (arith, inbox-short, l.planned) in (
        omega (arith, ap length there, length-spliced out 0 x (omega arith)),
        ap₂ (λ (j : ℕ) (y : List ℕ). take j y) k there ∙ take-spliced out x,
      )
