-- The openings of a plan that is taken: books and messages are within their limit and of bytes, what a sender wrote is its book's packet, and an opening by the
-- sender is the ordinary one with the message that the party read. By the laws of that opening. Assumes nothing.
use mathlib.Core.Path.{◌≡◌, refl, sym, ap, subst, ◌∙◌}
use mathlib.Core.Logic.{◌≢◌}
use mathlib.Core.Bool.{Bool, true, false, cond, not, ◌&&◌}
use mathlib.Core.List.{List, []}
use Prim.Native.Nat.{ℕ, ◌+◌, ◌≤◌}
use native.Mathlib.Decide.{ℕ_discrete}
use native.Mathlib.Omega.{arith}
use borrow.Author.Tests.{eq-eqb, ne_eqb}
use lib.Dec.{eqb, lit<}
use lib.ListN.{length, take, replicate, length-replicate}
use Rattle.limits.specs.Limits.{max_message}
use Rattle.limits.proofs.Ranges.{numbered_within}
use Rattle.buffer.specs.Bounds.{Bytes}
use Rattle.buffer.proofs.Bounds.{drop-bytes}
use Rattle.buffer.proofs.Splice.{take-spliced}
use Rattle.packet.specs.Message.{max_message_packet, message_packet}
use Rattle.packet.proofs.Messages.{packet-bytes}
use Rattle.commitment.proofs.Opening.{open-fine}
use Rattle.limits.proofs.Group.{group_of}
use Rattle.party.specs.Answer.{Opened}
use Rattle.party.specs.Steps.{open_of}
use Rattle.party.proofs.Progress.{open-accepted}
use Rattle.party.specs.Sender.{message_by, packet_by, sender_cause, Begun}
use Rattle.party.proofs.Sender.{read_short, sender-message, other-message, message-bytes, cause-none, packet-fits, begun-given}
use Rattle.plan.specs.Layout.{session_of, n_in, t_in, has_sender, sender_in, books_in, holders, good_sender, sender_packet}
use Rattle.plan.specs.Layout as layout
use Rattle.plan.specs.Plan.{plan_cause}
use Rattle.plan.proofs.Accepted.{Accepted, accepted, sender-there, book-short, entry-bytes, sender-bytes}
use Rattle.session.specs.Session.{book_of, opened_by_sender, sender_wrote, handed_to, opened, message_of}

module _ (s : List ℕ) (taken : plan_cause s ≡ 0) where
  plan : Accepted s
  plan = accepted s taken

  pub book-fits : (p : ℕ) → length (book_of s p) ≤ max_message
  unfolding book_of
  book-fits p = book-short (n_in s) (holders s) p (books_in s) plan.books-fit

  book-bytes : Bytes s → (p : ℕ) → Bytes (book_of s p)
  unfolding book_of
  book-bytes small p = entry-bytes (n_in s) (holders s) p (books_in s) (drop-bytes (layout.good_at s + layout.map_width) s small)

  module _ (H : List ℕ → List ℕ) where
    abbrev room : List ℕ
    room = replicate max_message_packet 0

    -- what is handed to the sender, and to another party where the sender is good
    pub handed-own : (p : ℕ) → p ≡ sender_in s → handed_to H s p ≡ book_of s p
    unfolding handed_to
    handed-own p e = rw (eq-eqb p (sender_in s) e)

    pub handed-good : (p : ℕ) → p ≢ sender_in s → good_sender s ≡ true → handed_to H s p ≡ sender_wrote H s
    unfolding handed_to
    handed-good p d g = rw (ne_eqb p (sender_in s) d, g)

    pub handed-bad : (p : ℕ) → p ≢ sender_in s → good_sender s ≡ false → handed_to H s p ≡ sender_packet p s
    unfolding handed_to
    handed-bad p d g = rw (ne_eqb p (sender_in s) d, g)

    -- what a party opens with is no longer than any message
    handed-short : (p : ℕ) → length (message_by p (sender_in s) (handed_to H s p)) ≤ max_message
    handed-short p = elim (ℕ_discrete p (sender_in s)) [
      | yes e ↦ omega (arith, ap length (sender-message p (sender_in s) (handed_to H s p) e ∙ handed-own p e), book-fits p)
      | no d ↦ omega (arith, ap length (other-message p (sender_in s) (handed_to H s p) d), read_short (handed_to H s p))
    ]

    pub message-short : (p : ℕ) → length (message_of H s p) ≤ max_message
    unfolding message_of
    message-short p = go (has_sender s)
      where
        go : (b : Bool) → length (cond b (message_by p (sender_in s) (handed_to H s p)) (book_of s p)) ≤ max_message
        go true = handed-short p
        go false = book-fits p

    -- where there is a sender, no opening of a party has a cause, if it is handed what it can open with
    module _ (there : has_sender s ≡ true) where
      no-cause : (p : ℕ) (bs : List ℕ) → 1 ≤ p → p ≤ n_in s → length (message_by p (sender_in s) bs) ≤ max_message
          → sender_cause (n_in s) (t_in s) p (sender_in s) bs ≡ 0
      no-cause p bs one last short =
          let q = sender-there s plan there in
          cause-none (n_in s) (t_in s) p (sender_in s) bs (open-fine (n_in s) (t_in s) p 0 plan.group one last (omega arith))
          (numbered_within (n_in s) (sender_in s) q.0 q.1) short

      begins : (p : ℕ) (bs : List ℕ) → 1 ≤ p → p ≤ n_in s → length (message_by p (sender_in s) bs) ≤ max_message
          → (opened_by_sender H s p bs).opened ≡ open_of H (session_of s) (n_in s) (t_in s) p (message_by p (sender_in s) bs)
      unfolding opened_by_sender
      begins p bs one last short =
          let c = no-cause p bs one last short in
          ap (λ (r : Begun). r.opened) (begun-given (n_in s) (t_in s) p (sender_in s) bs H (session_of s) room c
          (omega (arith, packet-fits (n_in s) (t_in s) p (sender_in s) bs c, length-replicate {A = ℕ} max_message_packet 0)))

      opened-by : (p : ℕ) → 1 ≤ p → p ≤ n_in s
          → (opened_by_sender H s p (handed_to H s p)).opened ≡ open_of H (session_of s) (n_in s) (t_in s) p (message_by p (sender_in s) (handed_to H s p))
      opened-by p one last = begins p (handed_to H s p) one last (handed-short p)

      -- what the sender wrote
      wrote-is : sender_wrote H s ≡ packet_by (n_in s) (sender_in s) (sender_in s) (book_of s (sender_in s))
      unfolding sender_wrote opened_by_sender
      wrote-is =
          let q = sender_in s in
          let b = book_of s q in
          let r = sender-there s plan there in
          let short : length (message_by q q b) ≤ max_message = omega (arith, ap length (sender-message q q b refl), book-fits q) in
          let c = no-cause q b r.0 r.1 short in
          ap (λ (r : Begun). take r.value r.buffer) (begun-given (n_in s) (t_in s) q q b H (session_of s) room c
          (omega (arith, packet-fits (n_in s) (t_in s) q q b c, length-replicate {A = ℕ} max_message_packet 0)))
          ∙ take-spliced room (packet_by (n_in s) q q b)

      -- and the sender's opening is not refused
      pub sender-begins : (q : ℕ) (m : List ℕ) → q ≡ sender_in s → m ≡ book_of s q → (opened_by_sender H s q m).opened.cause ≡ 0
      sender-begins q m e b =
          let p = sender_in s in
          let x = book_of s p in
          let r = sender-there s plan there in
          let g = group_of (n_in s) (t_in s) plan.group in
          let short : length (message_by p p x) ≤ max_message = omega (arith, ap length (sender-message p p x refl), book-fits p) in
          ap (λ (z : List ℕ). (opened_by_sender H s q z).opened.cause) b
          ∙ ap (λ (i : ℕ). (opened_by_sender H s i (book_of s i)).opened.cause) e
          ∙ ap (λ (o : Opened). o.cause) (begins p x r.0 r.1 short)
          ∙ open-accepted H (session_of s) (n_in s) (t_in s) p (message_by p p x) g.low g.high g.faults r.0 r.1 short

      -- and what is handed to a party is of bytes if the plan is
      pub handed-bytes : Bytes s → (p : ℕ) → Bytes (handed_to H s p)
      unfolding handed_to
      handed-bytes small p = go (eqb p (sender_in s)) (good_sender s)
        where
          books : (q : ℕ) → Bytes (book_of s q)
          books = book-bytes small

          wrote : Bytes (sender_wrote H s)
          wrote =
              let q = sender_in s in
              subst Bytes (sym wrote-is) (either (eqb q q && not (eqb (n_in s) 1)))
            where
              either : (b : Bool) → Bytes (cond b (message_packet (book_of s (sender_in s))) [])
              either true = packet-bytes (book_of s (sender_in s)) (books (sender_in s)) (book-fits (sender_in s))
              either false = λ i. lit< tt

          go : (a b : Bool) → Bytes (cond a (book_of s p) (cond b (sender_wrote H s) (sender_packet p s)))
          go true b = books p
          go false true = wrote
          go false false = sender-bytes p s small

    pub message-small : Bytes s → (p : ℕ) → Bytes (message_of H s p)
    unfolding message_of
    message-small small p = go (has_sender s) refl
      where
        go : (b : Bool) → has_sender s ≡ b → Bytes (cond b (message_by p (sender_in s) (handed_to H s p)) (book_of s p))
        go true e = message-bytes p (sender_in s) (handed_to H s p) (handed-bytes e small p)
        go false e = book-bytes small p

    -- every opening is the ordinary one
    pub opened-is : (p : ℕ) → 1 ≤ p → p ≤ n_in s → opened H s p ≡ open_of H (session_of s) (n_in s) (t_in s) p (message_of H s p)
    unfolding opened message_of
    opened-is p one last = go (has_sender s) refl
      where
        go : (b : Bool) → has_sender s ≡ b
            → cond b (opened_by_sender H s p (handed_to H s p)).opened (open_of H (session_of s) (n_in s) (t_in s) p (book_of s p))
            ≡ open_of H (session_of s) (n_in s) (t_in s) p (cond b (message_by p (sender_in s) (handed_to H s p)) (book_of s p))
        go true e = opened-by e p one last
        go false e = refl
