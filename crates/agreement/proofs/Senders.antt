-- Sessions with a named sender that meet all premises of broadcast, so that the theorem is not empty: n 3, t 1, sender 3. A bad one that gives the two good
-- parties two messages; a bad one that gives the one nothing and the other rubbish, so that both open with the empty message, which is not nothing; and a good
-- one, with a liar in the later exchanges. The small hash, the packets and the calls are those of `Instances`. By computation. Assumes nothing.
use mathlib.Core.Path.{◌≡◌, refl, sym, ◌∙◌, subst}
use mathlib.Core.Logic.{◌≢◌}
use mathlib.Core.Bool.{true}
use mathlib.Core.List.{List, [], ◌∷◌, map, Memᴰ}
use mathlib.Core.Option.{Option, none, some, none-ne-some}
use Prim.Native.Nat.{ℕ, ◌+◌, ◌*◌}
use native.Mathlib.Omega.{arith}
use lib.Dec.{lit<, lit≤}
use lib.ListN.{replicate}
use Rattle.limits.specs.Limits.{parties, numbered, group_cause}
use Rattle.buffer.specs.Bounds.{Bytes}
use Rattle.buffer.specs.Splice.{spliced, tabulate}
use Rattle.buffer.specs.Numbers.{four_bytes}
use Rattle.buffer.specs.Entries.{size, body, rest, fills, bodies}
use Rattle.bitmap.specs.Bitmap.{map_of}
use Rattle.gf256.specs.Field.{times_x, product_of, product, power, inverse}
use Rattle.polynomial.specs.Polynomial.{sum, pow, value, factor, unit, numerator, denominator, basis, through}
use Rattle.erasure.specs.Coding.{share_length, headed, frame, block, share_byte, share_of, share, shares}
use Rattle.erasure.specs.Rebuild.{present, point, framed, other, unframed, joined, recovered}
use Rattle.erasure.proofs.Instances.{two_bytes}
use Rattle.merkle.specs.Tree.{split_from, split, shape_of, shape, size as leaves, node_string, sides, beside, root, path, folded}
use Rattle.merkle.specs.Strings.{tree_strings, fold_strings, check_strings}
use Rattle.merkle.specs.Hashes.{top_hash, path_hashes}
use Rattle.merkle.specs.Shares.{session_bytes, leaf_string, front_length, leaf_strings, shares_cause, same, leaves_of, root_of, path_of, passes, coding_strings, strings_of}
use Rattle.packet.specs.Format.{chained, hashes, packet_of, entry_of, share_in, read_of}
use Rattle.packet.specs.Inbox.{inbox_of}
use Rattle.packet.specs.Class.{faulty, class_of, class_strings}
use Rattle.packet.specs.Message.{message_packet, message_in, read_message}
use Rattle.party.specs.State.{seat_of, Result, nothing, settled, at_root, at_bit, at_first, at_second, at_end, blank_state, broken, message_root, happy}
use Rattle.party.specs.Steps.{state_cause, open_cause, open_of, root_cause, agree_root_of, packet_for, bit_cause, outbox_of, agree_bit_of, inbox_cause, first_valid}
use Rattle.party.specs.Steps.{sent_faulty, faulty_shares, faulty_relays, faulty_of, relay_of, held_of, take_shares_of, gathered, result_found, result_of, relays_cause, take_relays_of}
use Rattle.party.specs.Strings.{judged_strings, share_strings}
use Rattle.party.specs.Sender.{sender_cause, open_by_sender_of}
use Rattle.agreement.specs.Calls.{Call, agree_root, agree_bit, Event, accepted, first, entry, lengths, sent_over, made, events, final}
use Rattle.agreement.specs.Calls.{strings_over, checked_in, recoded_in, did, first_of, opened_and_checked, recoded, sent_by, heard, packet_to, wrote, bit_given, opening, result_after}
use Rattle.agreement.specs.Agreement.{Good, among, different, absent, sum_over, join_over, step, all_opened_and_checked}
use Rattle.agreement.specs.Broadcast.{Opener, party_of, parties as parties_of, begun, gave, Premises, sent_in_all, Settled}
use Rattle.agreement.proofs.Lists.{same_some}
use Rattle.packet.proofs.Messages.{packet-bytes}
use Rattle.party.proofs.Sender.{message-bytes}
use Rattle.agreement.proofs.Mapped.{all_map}
use Rattle.agreement.proofs.Broadcast.{broadcast}
use Rattle.agreement.proofs.Instances.{mix, digest, toy, wide, clean, clean_of, clean-sound, there, pick, one_byte, M, z, room, pk, forged, rubbish, second2, second3, each, calls, y, calls1, calls2, two-books}

-- what holds between two, both ways, holds between every two with different numbers
crossed : {X : Type 0} (own : X → ℕ) (A B : X) (P : X → X → Type 0) → P A B × P B A
    → (C : X) → Memᴰ C (A ∷ B ∷ []) → (D : X) → Memᴰ D (A ∷ B ∷ []) → own C ≢ own D → P C D
crossed own A B P p =
    each A B (λ C. (D : _) → Memᴰ D (A ∷ B ∷ []) → own C ≢ own D → P C D)
    (each A B (λ D. own A ≢ own D → P A D) (λ d. absurd (d refl)) (λ d. p.0)) (each A B (λ D. own B ≢ own D → P B D) (λ d. p.1) (λ d. absurd (d refl)))

-- the call of an event
abbrev call_of : Option Event → Option Call
call_of none = none
call_of (some e) = some e.call

made_so : (o : Option Event) (c : Call) → call_of o ≡ some c → (e : Event) × (o ≡ some e) × (e.call ≡ c)
made_so none c p = absurd (none-ne-some c p)
made_so (some e) c p = (e, refl, same_some p)

module _ (session : ℕ) where
  -- a party's first accepted call of step k
  abbrev at : Opener → ℕ → Option Event
  at A k = first_of toy session 3 1 A.own (party_of A).message A.calls k

  -- its calls of all steps were accepted, first with the root z and the bit 1
  abbrev Called : List ℕ → Opener → Type 0
  Called z A = (call_of (at A 2) ≡ some (agree_root z)) × (call_of (at A 3) ≡ some (agree_bit 1 room)) × (there (at A 4) ≡ true) × (there (at A 5) ≡ true)

  -- what A was handed if S is the sender; and what A heard from B in the two exchanges
  abbrev Handed : Opener → Opener → Type 0
  Handed S A = S.own ≡ 3 → A.bytes ≡ gave toy session 3 1 [] S

  abbrev Shared : Good → Good → Type 0
  Shared A B = heard 3 B.own (step toy session 3 1 [] 4 A) ≡ packet_to 3 A.own (step toy session 3 1 [] 3 B)

  abbrev Relayed : Good → Good → Type 0
  Relayed A B = heard 3 B.own (step toy session 3 1 [] 5 A) ≡ wrote (step toy session 3 1 [] 4 B)

  abbrev strings : Opener → Opener → List (List ℕ)
  strings A B = all_opened_and_checked toy session 3 1 (party_of A ∷ party_of B ∷ [])

  module _ (A B : Opener) (z : List ℕ) (R : Result) where
    abbrev Twice : (Opener → Type 0) → Type 0
    Twice P = P A × P B

    -- what is computed of two good parties
    pub record Both : Type 0 where
      -- they were handed bytes, named sender 3 and opened; their calls of all steps were accepted; and they end with R
      pub bytes : Twice (λ D. Bytes D.bytes)
      pub opened : Twice (λ D. (D.sender ≡ 3) × ((begun toy session 3 1 [] D).opened.cause ≡ 0))
      pub called : Twice (Called z)
      pub ends : Twice (λ D. result_after toy session 3 1 D.own (party_of D).message D.calls ≡ some R)
      -- their numbers are two of the three
      pub apart : different (A.own ∷ B.own ∷ []) ≡ true
      pub bad : absent 3 1 (A.own ∷ B.own ∷ []) ≡ 1
      -- the first one's root is z, and its bit 1
      pub root : (opening toy session 3 1 A.own (party_of A).message).root ≡ z
      pub vote : bit_given (at A 2) ≡ some 1
      -- each got what the other sent
      pub handed : Handed A B × Handed B A
      pub shared : Shared (party_of A) (party_of B) × Shared (party_of B) (party_of A)
      pub relayed : Relayed (party_of A) (party_of B) × Relayed (party_of B) (party_of A)
      -- no two different strings of their openings and path checks have one hash
      pub no-collision : clean (strings A B) (strings A B) ≡ true

    all : (P : Opener → Type 0) → Twice P → (D : Opener) → Memᴰ D (A ∷ B ∷ []) → P D
    all P p = each A B P p.0 p.1

    -- so they meet the premises
    pub premises : Both → Premises toy session 3 1 (A ∷ B ∷ []) 3 z 1
    premises P = record {
      opened = record {
        accepted = λ D h. (all (λ C. (C.sender ≡ 3) × ((begun toy session 3 1 [] C).opened.cause ≡ 0)) P.opened D h).1;
        named = λ D h. (all (λ C. (C.sender ≡ 3) × ((begun toy session 3 1 [] C).opened.cause ≡ 0)) P.opened D h).0;
        bytes = all (λ C. Bytes (party_of C).message)
            (message-bytes A.own A.sender A.bytes P.bytes.0, message-bytes B.own B.sender B.bytes P.bytes.1);
        delivered = λ S h e D k d. crossed (λ (C : Opener). C.own) A B Handed P.handed S h D k (λ q. d (sym q ∙ e)) e;
        apart = P.apart;
        bad = omega (arith, P.bad);
      };
      called = record {
        step2 = all_map party_of (λ D. (e : Event) × (step toy session 3 1 [] 2 D ≡ some e) × (e.call ≡ agree_root z)) (A ∷ B ∷ [])
            (λ D h. made_so (at D 2) (agree_root z) (all (Called z) P.called D h).0);
        step3 = all_map party_of (λ D. (e : Event) × (out : List ℕ) × (step toy session 3 1 [] 3 D ≡ some e) × (e.call ≡ agree_bit 1 out)) (A ∷ B ∷ [])
            (λ D h. let p = made_so (at D 3) (agree_bit 1 room) (all (Called z) P.called D h).1 in
            (p.0, room, p.1, p.2));
        step4 = λ e. all_map party_of (λ D. (e : Event) × (step toy session 3 1 [] 4 D ≡ some e)) (A ∷ B ∷ [])
            (λ D h. pick (at D 4) (all (Called z) P.called D h).2);
        step5 = λ e. all_map party_of (λ D. (e : Event) × (step toy session 3 1 [] 5 D ≡ some e)) (A ∷ B ∷ [])
            (λ D h. pick (at D 5) (all (Called z) P.called D h).3);
      };
      ruled = record {
        root = λ v f. sym P.root ∙ same_some (f (party_of A) (Memᴰ.head refl));
        vote = λ v f. same_some (sym P.vote ∙ f (party_of A) (Memᴰ.head refl));
      };
      delivered = λ e. record {
        first_inbox = crossed (λ (C : Good). C.own) (party_of A) (party_of B) Shared P.shared;
        second_inbox = crossed (λ (C : Good). C.own) (party_of A) (party_of B) Relayed P.relayed;
      };
      clean = λ x y h k e. clean-sound x y (strings A B) (strings A B) P.no-collision h k e;
    }

    -- and R is what is settled
    pub settles : Both → Settled toy session 3 1 (A ∷ B ∷ []) 3 1 R
    settles P =
        let s = broadcast toy wide session 3 1 (A ∷ B ∷ []) 3 z 1 (premises P) in
        subst (Settled toy session 3 1 (A ∷ B ∷ []) 3 1) (same_some (sym (s.1.agreed.holds (party_of A) (Memᴰ.head refl)) ∙ P.ends.0)) s.1

-- sender 3 is bad: it gives party 1 the packet of 0x41 and party 2 that of 0x42. Their calls are those of the second worked plan
abbrev two1 : Opener
two1 = record { own = 1; sender = 3; bytes = message_packet (0x41 ∷ []); out = []; calls = calls1 }

abbrev two2 : Opener
two2 = record { own = 2; sender = 3; bytes = message_packet (0x42 ∷ []); out = []; calls = calls2 }

abbrev pub two : List Opener
two = two1 ∷ two2 ∷ []

-- it is bad and gives party 1 no bytes and party 2 two that are no packet; the root of the empty message is agreed
abbrev pub x : List ℕ
x = message_root toy 0 3 1 []

abbrev ek : ℕ → List ℕ
ek j = packet_for toy (at_bit (seat_of 0 3 1 1) [] x) j

abbrev silent1 : Opener
silent1 = record { own = 1; sender = 3; bytes = []; out = []; calls = calls x (inbox_of ([] ∷ ek 1 ∷ [] ∷ [])) (inbox_of ([] ∷ ek 2 ∷ [] ∷ [])) }

abbrev silent2 : Opener
silent2 = record { own = 2; sender = 3; bytes = rubbish; out = []; calls = calls x (inbox_of (ek 2 ∷ [] ∷ [] ∷ [])) (inbox_of (ek 1 ∷ [] ∷ [] ∷ [])) }

abbrev pub silent : List Opener
silent = silent1 ∷ silent2 ∷ []

-- it is good and has M, in a buffer with room to spare; party 1 is bad, and forges shares and sends a relay of another session. The session's number is 7
abbrev lies2 : List ℕ
lies2 = inbox_of (forged 2 (replicate 32 5 ∷ replicate 32 6 ∷ []) ∷ [] ∷ pk 2 ∷ [])

abbrev lies3 : List ℕ
lies3 = inbox_of (forged 3 (replicate 32 5 ∷ []) ∷ pk 3 ∷ [] ∷ [])

abbrev good2 : Opener
good2 = record { own = 2; sender = 3; bytes = message_packet M; out = []; calls = calls z lies2 second2 }

abbrev good3 : Opener
good3 = record { own = 3; sender = 3; bytes = M; out = room; calls = calls z lies3 second3 }

abbrev pub good : List Opener
good = good2 ∷ good3 ∷ []

-- what is computed
pub record Computed : Type 0 where
  -- all equations from which the premises are met, and the results
  pub two-went : Both 0 two1 two2 y (settled (0x41 ∷ []))
  pub silent-went : Both 0 silent1 silent2 x (settled [])
  pub good-went : Both 7 good2 good3 z (settled M)
  -- the good parties of the first session are those of the second worked plan, and so are the bytes sent: a bad sender's are not counted
  pub two-parties : parties_of toy 0 3 1 two ≡ two-books
  pub two-sent : sent_in_all toy 0 3 1 two ≡ 388
  -- silence is read, and the bytes that are no packet, as the empty message
  pub silent-parties : map (λ (A : Good). A.message) (parties_of toy 0 3 1 silent) ≡ [] ∷ [] ∷ []
  pub silent-sent : sent_in_all toy 0 3 1 silent ≡ 488
  -- the good sender's packet, which party 2 was handed, at the start of its buffer
  pub good-packet : gave toy 7 3 1 good good3 ≡ 0x08 ∷ 0 ∷ 2 ∷ 0x41 ∷ 0x42 ∷ []
  pub good-buffer : (begun toy 7 3 1 good good3).buffer ≡ 0x08 ∷ 0 ∷ 2 ∷ 0x41 ∷ 0x42 ∷ replicate 145 7
  -- party 1's two shares do not pass
  pub good-lies : (class_of toy 7 3 2 z (entry 3 1 lies2) ≡ faulty) × (class_of toy 7 3 3 z (entry 3 1 lies3) ≡ faulty)
  -- the bytes of agreement, and the packet to two others
  pub good-sent : sent_in_all toy 7 3 1 good ≡ 2 * 5 + 464

pub computed : Computed
unfolding size body rest fills bodies spliced tabulate parties numbered group_cause times_x product_of product power inverse sum pow value factor unit numerator denominator basis through share_length headed frame block share_byte share_of share shares present point framed other unframed joined recovered split_from split shape_of shape leaves node_string sides beside root path folded tree_strings fold_strings check_strings top_hash path_hashes four_bytes session_bytes leaf_string front_length leaf_strings shares_cause same leaves_of root_of path_of passes coding_strings strings_of chained hashes packet_of entry_of share_in read_of inbox_of class_of class_strings at_root at_bit at_first at_second at_end blank_state broken message_root happy state_cause open_cause open_of root_cause agree_root_of packet_for bit_cause outbox_of agree_bit_of inbox_cause first_valid map_of sent_faulty faulty_shares faulty_relays faulty_of relay_of held_of take_shares_of gathered result_found result_of relays_cause take_relays_of accepted first entry lengths sent_over made events final share_strings judged_strings checked_in strings_over recoded_in did opened_and_checked recoded sent_by among different absent sum_over join_over clean clean_of there mix digest message_packet message_in read_message sender_cause open_by_sender_of
computed = record {
  two-went = record {
    bytes = (packet-bytes (0x41 ∷ []) (one_byte 0x41 (lit< tt)) (lit≤ tt), packet-bytes (0x42 ∷ []) (one_byte 0x42 (lit< tt)) (lit≤ tt));
    opened = ((refl, refl), (refl, refl));
    called = ((refl, refl, refl, refl), (refl, refl, refl, refl));
    ends = (refl, refl);
    apart = refl;
    bad = refl;
    root = refl;
    vote = refl;
    handed = (λ e. absurd (omega arith), λ e. absurd (omega arith));
    shared = (refl, refl);
    relayed = (refl, refl);
    no-collision = refl;
  };
  silent-went = record {
    bytes = (λ i. lit< tt, two_bytes 9 9 (lit< tt) (lit< tt));
    opened = ((refl, refl), (refl, refl));
    called = ((refl, refl, refl, refl), (refl, refl, refl, refl));
    ends = (refl, refl);
    apart = refl;
    bad = refl;
    root = refl;
    vote = refl;
    handed = (λ e. absurd (omega arith), λ e. absurd (omega arith));
    shared = (refl, refl);
    relayed = (refl, refl);
    no-collision = refl;
  };
  good-went = record {
    bytes = (packet-bytes M (two_bytes 0x41 0x42 (lit< tt) (lit< tt)) (lit≤ tt), two_bytes 0x41 0x42 (lit< tt) (lit< tt));
    opened = ((refl, refl), (refl, refl));
    called = ((refl, refl, refl, refl), (refl, refl, refl, refl));
    ends = (refl, refl);
    apart = refl;
    bad = refl;
    root = refl;
    vote = refl;
    handed = (λ e. absurd (omega arith), λ e. refl);
    shared = (refl, refl);
    relayed = (refl, refl);
    no-collision = refl;
  };
  two-parties = refl;
  two-sent = refl;
  silent-parties = refl;
  silent-sent = refl;
  good-packet = refl;
  good-buffer = refl;
  good-lies = (refl, refl);
  good-sent = refl;
}

-- so all premises are met
pub two-premises : Premises toy 0 3 1 two 3 y 1
two-premises = premises 0 two1 two2 y (settled (0x41 ∷ [])) computed.two-went

pub silent-premises : Premises toy 0 3 1 silent 3 x 1
silent-premises = premises 0 silent1 silent2 x (settled []) computed.silent-went

pub good-premises : Premises toy 7 3 1 good 3 z 1
good-premises = premises 7 good2 good3 z (settled M) computed.good-went

-- and all that is promised holds, of one of the bad sender's two messages, of the empty one, and of the good sender's
pub two-settled : Settled toy 0 3 1 two 3 1 (settled (0x41 ∷ []))
two-settled = settles 0 two1 two2 y (settled (0x41 ∷ [])) computed.two-went

pub silent-settled : Settled toy 0 3 1 silent 3 1 (settled [])
silent-settled = settles 0 silent1 silent2 x (settled []) computed.silent-went

pub good-settled : Settled toy 7 3 1 good 3 1 (settled M)
good-settled = settles 7 good2 good3 z (settled M) computed.good-went

-- the empty message is not nothing
pub not-nothing : settled [] ≢ nothing
not-nothing e = let c : ◌≡◌ {A = ℕ} 0 1 = cc in omega arith
