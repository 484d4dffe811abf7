-- Sessions that meet all premises of agreement, so that the theorem is not empty: with a liar that sends one party a good share and the next a
-- bad one, and a packet of a session with another number, with unhappy good parties, with refused calls before, between and after the accepted ones; on bit 1 and on bit 0. And what
-- the two worked plans of document 01 send and hash. Everything is computed, by the tree, the coder, the packets and the steps
-- themselves, over a small hash of 32 bytes that the checker can work out. Assumes nothing.
use mathlib.Core.Path.{◌≡◌, refl, sym, ap, ◌∙◌, subst}
use mathlib.Core.Logic.{◌⊎◌, inl, inr, ◌≢◌}
use mathlib.Core.Bool.{Bool, true, false, cond, false≢true}
use mathlib.Core.List.Memᴰ
use mathlib.Core.List.{List, [], ◌∷◌, map, Memᴰ}
use mathlib.Core.Option.{Option, none, some}
use Prim.Native.Nat.{ℕ, zero, suc, ◌+◌, ◌*◌, ◌/◌, ◌%◌, ◌^◌, ◌<◌}
use native.Mathlib.Nat.{le_refl}
use native.Mathlib.Omega.{arith}
use lib.Dec.{lit<}
use lib.ListN.{length, take, drop, replicate}
use Rattle.limits.specs.Limits.{max_message, max_share, parties, numbered, group_cause}
use Rattle.buffer.specs.Bounds.{Bytes}
use Rattle.buffer.specs.Splice.{spliced, tabulate}
use Rattle.buffer.specs.Numbers.{four_bytes}
use Rattle.buffer.specs.Entries.{size, body, rest, fills, bodies}
use Rattle.bitmap.specs.Bitmap.{map_of}
use Rattle.gf256.specs.Field.{times_x, product_of, product, power, inverse}
use Rattle.polynomial.specs.Polynomial.{sum, pow, value, factor, unit, numerator, denominator, basis, through}
use Rattle.erasure.specs.Coding.{share_length, headed, frame, block, share_byte, share_of, share, shares}
use Rattle.erasure.specs.Rebuild.{present, point, framed, other, unframed, joined, recovered}
use Rattle.erasure.proofs.Instances.{two_bytes}
use Rattle.merkle.specs.Tree.{split_from, split, shape_of, shape, size as leaves, node_string, sides, beside, root, path, folded}
use Rattle.merkle.specs.Strings.{tree_strings, fold_strings, check_strings}
use Rattle.merkle.specs.Hashes.{top_hash, path_hashes}
use Rattle.merkle.specs.Shares.{session_bytes, leaf_string, front_length, leaf_strings, shares_cause, same, leaves_of, root_of, path_of, passes, coding_strings, strings_of}
use Rattle.merkle.proofs.Judged.{same_true, same_refl}
use Rattle.packet.specs.Format.{chained, hashes, packet_of, entry_of, share_in, read_of}
use Rattle.packet.specs.Inbox.{inbox_of}
use Rattle.packet.specs.Class.{valid, faulty, class_of, class_strings}
use Rattle.party.specs.State.{seat_of, padded, Result, nothing, settled, at_root, at_bit, at_first, at_second, at_end, blank_state, broken, message_root, happy}
use Rattle.party.specs.Steps.{state_cause, open_cause, open_of, root_cause, agree_root_of, packet_for, bit_cause, outbox_of, agree_bit_of, inbox_cause, first_valid}
use Rattle.party.specs.Steps.{gives, sent_faulty, faulty_shares, faulty_relays, faulty_of, relay_of, held_of, take_shares_of, gathered, result_found, result_of, relays_cause, take_relays_of}
use Rattle.std.specs.Prelude.{Some}
use Rattle.party.specs.declared.Stage.TheVariants.{Ended}
use Rattle.party.specs.Answer as answer
use Rattle.party.specs.declared.Party.{Party}
use Rattle.party.specs.Strings.{judged_strings, share_strings}
use Rattle.party.proofs.Ways.{Way, on, off, way, clash}
use Rattle.agreement.specs.Calls.{Call, agree_root, agree_bit, take_shares, take_relays, Event, accepted, first, entry, lengths, sent_over, made, events, final}
use Rattle.agreement.specs.Calls.{strings_over, checked_in, judged_in, recoded_in}
use Rattle.agreement.specs.Calls.{did, opened_and_checked, judged, recoded, settling, hashed, sent_by, heard, packet_to, wrote, opening, result_after}
use Rattle.agreement.specs.Agreement.{Good, among, different, absent, sum_over, join_over, step, all_opened_and_checked, Premises, sent, Conclusions}
use Rattle.agreement.proofs.Lists.{same_some}
use Rattle.agreement.proofs.Agreement.{agreement}

-- a small hash: a number worked out byte by byte, in eight bytes, and zeros
unfoldable pub mix : List ℕ → ℕ → ℕ
mix [] v = v
mix (a ∷ s) v = mix s ((v * 257 + a + 1) % 2 ^ 61)

unfoldable pub digest : ℕ → List ℕ
digest v =
    v % 256 ∷ v / 2 ^ 8 % 256 ∷ v / 2 ^ 16 % 256 ∷ v / 2 ^ 24 % 256 ∷ v / 2 ^ 32 % 256 ∷ v / 2 ^ 40 % 256 ∷ v / 2 ^ 48 % 256
    ∷ v / 2 ^ 56 % 256 ∷ replicate 24 0

abbrev pub toy : List ℕ → List ℕ
toy s = digest (mix s 0)

pub wide : (s : List ℕ) → length (toy s) ≡ 32
unfolding digest
wide s = refl

-- strings of which no two different ones have one hash, tested pair by pair
unfoldable pub clean_of : List ℕ → List (List ℕ) → Bool
clean_of x [] = true
clean_of x (y ∷ l) = cond (same (toy x) (toy y)) (cond (same x y) (clean_of x l) false) (clean_of x l)

unfoldable pub clean : List (List ℕ) → List (List ℕ) → Bool
clean [] l = true
clean (x ∷ xs) l = cond (clean_of x l) (clean xs l) false

clean_of-sound : (x y : List ℕ) (l : List (List ℕ)) → clean_of x l ≡ true → Memᴰ y l → toy x ≡ toy y → x ≡ y
unfolding clean_of
clean_of-sound x y [] c h e = absurd (Memᴰ.not-nil h)
clean_of-sound x y (w ∷ l) c h e = go (way (same (toy x) (toy w))) (way (same x w)) (Memᴰ.cases_cons h) (clean_of-sound x y l)
  where
    go : Way (same (toy x) (toy w)) → Way (same x w) → (y ≡ w) ⊎ Memᴰ y l
        → (clean_of x l ≡ true → Memᴰ y l → toy x ≡ toy y → x ≡ y) → x ≡ y
    go (on p) (on q) (inl k) r = same_true x w q ∙ sym k
    go (off p) (on q) (inl k) r = same_true x w q ∙ sym k
    go (on p) (off q) (inl k) r = absurd (false≢true (rw (p, q) at c))
    go (on p) (off q) (inr k) r = absurd (false≢true (rw (p, q) at c))
    go (off p) (off q) (inl k) r = clash (subst (λ (v : List ℕ). same (toy x) v ≡ true) (e ∙ ap toy k) (same_refl (toy x))) p
    go (on p) (on q) (inr k) r = r (rw (p, q) at c) k e
    go (off p) (on q) (inr k) r = r (rw p at c) k e
    go (off p) (off q) (inr k) r = r (rw p at c) k e

pub clean-sound : (x y : List ℕ) (xs l : List (List ℕ)) → clean xs l ≡ true → Memᴰ x xs → Memᴰ y l → toy x ≡ toy y → x ≡ y
unfolding clean
clean-sound x y [] l c h k e = absurd (Memᴰ.not-nil h)
clean-sound x y (w ∷ xs) l c h k e = go (way (clean_of w l)) (Memᴰ.cases_cons h) (clean-sound x y xs l)
  where
    go : Way (clean_of w l) → (x ≡ w) ⊎ Memᴰ x xs
        → (clean xs l ≡ true → Memᴰ x xs → Memᴰ y l → toy x ≡ toy y → x ≡ y) → x ≡ y
    go (on p) (inl q) r = q ∙ clean_of-sound w y l p k (ap toy (sym q) ∙ e)
    go (on p) (inr q) r = r (rw p at c) q k e
    go (off p) (inl q) r = absurd (false≢true (rw p at c))
    go (off p) (inr q) r = absurd (false≢true (rw p at c))

-- an event that is there
unfoldable pub there : Option Event → Bool
there none = false
there (some e) = true

abbrev pub pick : (o : Option Event) → there o ≡ true → (e : Event) × (o ≡ some e)
unfolding there
pick none p = absurd (false≢true p)
pick (some e) p = (e, refl)

zero_one : ◌≡◌ {A = ℕ} 0 1 → ⊥
zero_one e = omega arith

-- short messages are bytes
pub one_byte : (a : ℕ) → a < 256 → Bytes (a ∷ [])
one_byte a h zero = h
one_byte a h (suc i) = lit< tt

-- session number 7, n 3, t 1: party 1 lies, 2 is unhappy, 3 is happy
abbrev pub M : List ℕ
M = 0x41 ∷ 0x42 ∷ []

abbrev pub root_under : ℕ → List ℕ
root_under session = message_root toy session 3 1 M

abbrev pub z : List ℕ
z = root_under 7

abbrev pub room : List ℕ
room = replicate 150 7

-- the packet with share j of M, by the session's number; and a share and paths that are none of M's
abbrev pub packet_under : ℕ → ℕ → List ℕ
packet_under session j = packet_for toy (at_bit (seat_of session 3 1 3) M (root_under session)) j

abbrev pub pk : ℕ → List ℕ
pk j = packet_under 7 j

abbrev pub forged : ℕ → List (List ℕ) → List ℕ
forged j p = packet_of j (1 ∷ 77 ∷ []) p

abbrev pub rubbish : List ℕ
rubbish = 9 ∷ 9 ∷ []

-- the liar sends party 2 a good share and party 3 a forged one, and then party 2 the relay of a session with number 0; own entries hold what they like
abbrev pub first2 : List ℕ
first2 = inbox_of (pk 2 ∷ rubbish ∷ pk 2 ∷ [])

abbrev pub first3 : List ℕ
first3 = inbox_of (forged 3 (replicate 32 5 ∷ []) ∷ [] ∷ pk 3 ∷ [])

abbrev pub second2 : List ℕ
second2 = inbox_of (packet_under 0 1 ∷ pk 2 ∷ pk 3 ∷ [])

abbrev pub second3 : List ℕ
second3 = inbox_of (rubbish ∷ pk 2 ∷ rubbish ∷ [])

-- party 2 is called out of turn, with a short root, a wrong bit, a short buffer and a bad inbox; once it has ended its result is read twice more, both
-- times with a bad inbox, first into a short buffer; and it is called out of turn again
abbrev pub P2 : Good
P2 = record {
  own = 2;
  message = 0x43 ∷ [];
  calls =
      agree_bit 1 room ∷ agree_root [] ∷ agree_root z ∷ agree_bit 2 room ∷ agree_bit 1 [] ∷ agree_bit 1 room ∷ take_shares rubbish room
      ∷ take_shares first2 [] ∷ take_shares first2 room ∷ agree_root z ∷ take_relays second2 [] ∷ take_relays second2 room
      ∷ take_relays rubbish [] ∷ take_relays rubbish room ∷ take_shares rubbish room ∷ agree_bit 1 room ∷ [];
}

abbrev pub P3 : Good
P3 = record {
  own = 3;
  message = M;
  calls = agree_root z ∷ agree_bit 1 room ∷ take_shares first3 room ∷ take_relays second3 room ∷ [];
}

abbrev pub good : List Good
good = P2 ∷ P3 ∷ []

-- the same two, told bit 0; party 2's result is read, with a bad inbox and no buffer
abbrev pub Q2 : Good
Q2 = record { own = 2; message = 0x43 ∷ []; calls = agree_root z ∷ agree_bit 0 [] ∷ agree_bit 0 room ∷ take_shares first2 room ∷ take_relays rubbish [] ∷ [] }

abbrev pub Q3 : Good
Q3 = record { own = 3; message = M; calls = agree_root z ∷ agree_bit 0 room ∷ [] }

abbrev pub idle : List Good
idle = Q2 ∷ Q3 ∷ []

-- what holds of one holds of all, where there is but one; and what holds of both, where there are two
pub only : (A : Good) (P : Good → Type 0) → P A → (D : Good) → Memᴰ D (A ∷ []) → P D
only A P a D h = subst P (sym (Memᴰ.eq_of_singleton h)) a

pub each : {X : Type 0} (A B : X) (P : X → Type 0) → P A → P B → (D : X) → Memᴰ D (A ∷ B ∷ []) → P D
each A B P a b D h = go (Memᴰ.cases_cons h)
  where
    last : (D ≡ B) ⊎ Memᴰ D [] → P D
    last (inl e) = subst P (sym e) b
    last (inr k) = absurd (Memᴰ.not-nil k)

    go : (D ≡ A) ⊎ Memᴰ D (B ∷ []) → P D
    go (inl e) = subst P (sym e) a
    go (inr k) = last (Memᴰ.cases_cons k)

abbrev Second : List Good → Good → Type 0
Second l A = (e : Event) × (step toy 7 3 1 l 2 A ≡ some e) × (e.call ≡ agree_root z)

abbrev Third : List Good → ℕ → Good → Type 0
Third l bit A = (e : Event) × (out : List ℕ) × (step toy 7 3 1 l 3 A ≡ some e) × (e.call ≡ agree_bit bit out)

abbrev Step : ℕ → Good → Type 0
Step k A = (e : Event) × (step toy 7 3 1 good k A ≡ some e)

abbrev First : Good → Good → Type 0
First A B = A.own ≢ B.own → heard 3 B.own (step toy 7 3 1 good 4 A) ≡ packet_to 3 A.own (step toy 7 3 1 good 3 B)

abbrev Relay : Good → Good → Type 0
Relay A B = A.own ≢ B.own → heard 3 B.own (step toy 7 3 1 good 5 A) ≡ wrote (step toy 7 3 1 good 4 B)

-- the worked plans of document 01, under number 0: n 3, t 1, party 3 silent, and parties 1 and 2 with the calls that their host makes
abbrev pub calls : List ℕ → List ℕ → List ℕ → List Call
calls root first second = agree_root root ∷ agree_bit 1 room ∷ take_shares first room ∷ take_relays second room ∷ []

-- both open with 0x41 0x42
abbrev pub same_books : List Good
same_books =
    let k : ℕ → List ℕ = packet_under 0 in
    record { own = 1; message = M; calls = calls (root_under 0) (inbox_of ([] ∷ k 1 ∷ [] ∷ [])) (inbox_of ([] ∷ k 2 ∷ [] ∷ [])) }
    ∷ record { own = 2; message = M; calls = calls (root_under 0) (inbox_of (k 2 ∷ [] ∷ [] ∷ [])) (inbox_of (k 1 ∷ [] ∷ [] ∷ [])) } ∷ []

-- they open with 0x41 and 0x42, and the root of the first is agreed
abbrev pub y : List ℕ
y = message_root toy 0 3 1 (0x41 ∷ [])

abbrev pub qk : ℕ → List ℕ
qk j = packet_for toy (at_bit (seat_of 0 3 1 1) (0x41 ∷ []) y) j

abbrev pub calls1 : List Call
calls1 = calls y (inbox_of ([] ∷ [] ∷ [] ∷ [])) (inbox_of ([] ∷ qk 2 ∷ [] ∷ []))

abbrev pub calls2 : List Call
calls2 = calls y (inbox_of (qk 2 ∷ [] ∷ [] ∷ [])) (inbox_of (qk 1 ∷ [] ∷ [] ∷ []))

abbrev pub two-books : List Good
two-books = record { own = 1; message = 0x41 ∷ []; calls = calls1 } ∷ record { own = 2; message = 0x42 ∷ []; calls = calls2 } ∷ []

-- party 2 ended, with what a foreign host may have left beside the result
abbrev pub dirty : Party
dirty = record {
  seat = seat_of 7 3 1 2;
  stage = Ended (Some 2);
  message = padded max_message (0x41 ∷ 0x42 ∷ 0x58 ∷ []);
  len = 3;
  root = z;
  share = padded max_share (9 ∷ []);
  held = 1;
  faulty = 5;
}

-- what is computed
pub record Computed : Type 0 where
  -- all premises, on bit 1 and on bit 0
  pub premises : Premises toy 7 3 1 good z 1
  pub idle-premises : Premises toy 7 3 1 idle z 0
  -- of what the liar sends, the share for party 2 passes, and the one for party 3 and the relay of another session do not; in that one the relay passes
  pub good-share : class_of toy 7 3 2 z (entry 3 1 first2)
      ≡ valid (share 2 2 M) (take 2 (path_of toy 3 2 (leaves_of toy 7 3 (shares 3 2 M))))
  pub bad-share : class_of toy 7 3 3 z (entry 3 1 first3) ≡ faulty
  pub bad-relay : class_of toy 7 3 1 z (entry 3 1 second2) ≡ faulty
  pub other-session : class_of toy 0 3 1 (root_under 0) (entry 3 1 second2)
      ≡ valid (share 2 1 M) (take 2 (path_of toy 3 1 (leaves_of toy 0 3 (shares 3 2 M))))
  -- the causes for which party 2's calls were refused, 0 where they were accepted
  pub causes : map (λ (e : Event). e.reply.cause) (events toy (opening toy 7 3 1 2 (0x43 ∷ [])).state P2.calls)
      ≡ 6 ∷ 7 ∷ 0 ∷ 7 ∷ 9 ∷ 0 ∷ 8 ∷ 9 ∷ 0 ∷ 6 ∷ 9 ∷ 0 ∷ 9 ∷ 0 ∷ 6 ∷ 6 ∷ []
  -- its two accepted readings gave M, into the start of the buffer; the one with a short buffer was told M's length and changed nothing
  pub readings : map (λ (e : Event). e.reply.result) (drop 3 (did toy 7 3 1 2 (0x43 ∷ []) P2.calls)) ≡ some (settled M) ∷ some (settled M) ∷ []
  pub read-buffers : map (λ (e : Event). e.reply.buffer) (drop 3 (did toy 7 3 1 2 (0x43 ∷ []) P2.calls))
      ≡ spliced room 0 M ∷ spliced room 0 M ∷ []
  pub short-reading : made toy (at_end (seat_of 7 3 1 2) (settled M) 5) (take_relays rubbish []) ≡ gives (at_end (seat_of 7 3 1 2) (settled M) 5) (answer.Short 2) []
  -- a dirty ended state, with a stale message, root and share and with bytes past its result, comes back clean, with its map
  pub dirty-reading : (made toy dirty (take_relays rubbish room)).state ≡ at_end (seat_of 7 3 1 2) (settled M) 5
  -- on bit 1 party 2 ends with M, though it opened with another message, and 356 bytes were sent
  pub party-2 : result_after toy 7 3 1 2 (0x43 ∷ []) P2.calls ≡ some (settled M)
  pub sent-there : sent toy 7 3 1 good ≡ 356
  -- on bit 0 it ends with nothing, its reading gives nothing, and nothing is sent
  pub idle-reading : map (λ (e : Event). e.reply.result) (drop 2 (did toy 7 3 1 2 (0x43 ∷ []) Q2.calls)) ≡ some nothing ∷ []
  pub idle-2 : result_after toy 7 3 1 2 (0x43 ∷ []) Q2.calls ≡ some nothing
  pub idle-sent : sent toy 7 3 1 idle ≡ 0
  -- the bytes sent in the two plans
  pub same-books-sent : sent toy 0 3 1 same_books ≡ 496
  pub two-books-sent : sent toy 0 3 1 two-books ≡ 388
  -- in the second, party 1, which is happy, needs the five strings of its message's tree and no others, and hashes the three of party 2's relay for its map
  -- alone; party 2 hashes those of its own, three in each exchange, and the five of the message that it rebuilt and coded again, and needs all
  pub first-settling : length (settling toy 0 3 1 1 (0x41 ∷ []) calls1) ≡ 5
  pub first-hashes : length (hashed toy 0 3 1 1 (0x41 ∷ []) calls1) ≡ 5 + 3
  pub second-settling : length (settling toy 0 3 1 2 (0x42 ∷ []) calls2) ≡ 5 + 3 + 3 + 5
  pub second-hashes : length (hashed toy 0 3 1 2 (0x42 ∷ []) calls2) ≡ 5 + 3 + 3 + 5
  -- refused calls hash nothing: of the first session party 2 hashes the five strings of its own message's tree, three of the share that it took and three of the
  -- next one that passed, which it does not need, three of the other session's relay and two of party 3's, and the five of the message that it coded again once,
  -- though it was handed its inboxes again and again and its result was read again
  pub refused-unsettling : length (settling toy 7 3 1 2 (0x43 ∷ []) P2.calls) ≡ 5 + 3 + 3 + 2 + 5
  pub refused-unhashed : length (hashed toy 7 3 1 2 (0x43 ∷ []) P2.calls) ≡ 5 + (3 + 3) + 3 + 2 + 5
  pub idle-unhashed : length (hashed toy 7 3 1 2 (0x43 ∷ []) Q2.calls) ≡ 5
  pub second-ends : result_after toy 0 3 1 2 (0x42 ∷ []) calls2 ≡ some (settled (0x41 ∷ []))

pub computed : Computed
unfolding size body rest fills bodies spliced tabulate parties numbered group_cause times_x product_of product power inverse sum pow value factor unit numerator denominator basis through share_length headed frame block share_byte share_of share shares present point framed other unframed joined recovered split_from split shape_of shape leaves node_string sides beside root path folded tree_strings fold_strings check_strings top_hash path_hashes four_bytes session_bytes leaf_string front_length leaf_strings shares_cause same leaves_of root_of path_of passes coding_strings strings_of chained hashes packet_of entry_of share_in read_of inbox_of class_of class_strings at_root at_bit at_first at_second at_end blank_state broken message_root happy state_cause open_cause open_of root_cause agree_root_of packet_for bit_cause outbox_of agree_bit_of inbox_cause first_valid map_of sent_faulty faulty_shares faulty_relays faulty_of relay_of held_of take_shares_of gathered result_found result_of relays_cause take_relays_of accepted first entry lengths sent_over made events final share_strings judged_strings checked_in strings_over judged_in recoded_in did opened_and_checked judged recoded sent_by among different absent sum_over join_over clean clean_of there mix digest
computed = record {
  premises = record {
    opened = record {
      bytes = each P2 P3 (λ A. Bytes A.message) (one_byte 0x43 (lit< tt)) (two_bytes 0x41 0x42 (lit< tt) (lit< tt));
      accepted = each P2 P3 (λ A. (opening toy 7 3 1 A.own A.message).cause ≡ 0) refl refl;
      apart = refl;
      bad = le_refl 1;
    };
    called = record {
      step2 = each P2 P3 (Second good) (let p = pick (step toy 7 3 1 good 2 P2) refl in (p.0, p.1, refl))
          (let p = pick (step toy 7 3 1 good 2 P3) refl in (p.0, p.1, refl));
      step3 = each P2 P3 (Third good 1) (let p = pick (step toy 7 3 1 good 3 P2) refl in (p.0, room, p.1, refl))
          (let p = pick (step toy 7 3 1 good 3 P3) refl in (p.0, room, p.1, refl));
      step4 = λ e. each P2 P3 (Step 4) (pick (step toy 7 3 1 good 4 P2) refl) (pick (step toy 7 3 1 good 4 P3) refl);
      step5 = λ e. each P2 P3 (Step 5) (pick (step toy 7 3 1 good 5 P2) refl) (pick (step toy 7 3 1 good 5 P3) refl);
    };
    ruled = record {
      root = λ v f. same_some (f P3 (Memᴰ.tail (Memᴰ.head refl)));
      vote = λ v f. same_some (f P3 (Memᴰ.tail (Memᴰ.head refl)));
    };
    delivered = λ e. record {
      first_inbox = each P2 P3 (λ A. (B : Good) → Memᴰ B good → First A B)
          (each P2 P3 (First P2) (λ d. absurd (d refl)) (λ d. refl)) (each P2 P3 (First P3) (λ d. refl) (λ d. absurd (d refl)));
      second_inbox = each P2 P3 (λ A. (B : Good) → Memᴰ B good → Relay A B)
          (each P2 P3 (Relay P2) (λ d. absurd (d refl)) (λ d. refl)) (each P2 P3 (Relay P3) (λ d. refl) (λ d. absurd (d refl)));
    };
    clean = λ x y h k e. clean-sound x y (all_opened_and_checked toy 7 3 1 good) (all_opened_and_checked toy 7 3 1 good) refl h k e;
  };
  idle-premises = record {
    opened = record {
      bytes = each Q2 Q3 (λ A. Bytes A.message) (one_byte 0x43 (lit< tt)) (two_bytes 0x41 0x42 (lit< tt) (lit< tt));
      accepted = each Q2 Q3 (λ A. (opening toy 7 3 1 A.own A.message).cause ≡ 0) refl refl;
      apart = refl;
      bad = le_refl 1;
    };
    called = record {
      step2 = each Q2 Q3 (Second idle) (let p = pick (step toy 7 3 1 idle 2 Q2) refl in (p.0, p.1, refl))
          (let p = pick (step toy 7 3 1 idle 2 Q3) refl in (p.0, p.1, refl));
      step3 = each Q2 Q3 (Third idle 0) (let p = pick (step toy 7 3 1 idle 3 Q2) refl in (p.0, room, p.1, refl))
          (let p = pick (step toy 7 3 1 idle 3 Q3) refl in (p.0, room, p.1, refl));
      step4 = λ e. absurd (zero_one e);
      step5 = λ e. absurd (zero_one e);
    };
    ruled = record {
      root = λ v f. same_some (f Q3 (Memᴰ.tail (Memᴰ.head refl)));
      vote = λ v f. same_some (f Q2 (Memᴰ.head refl));
    };
    delivered = λ e. absurd (zero_one e);
    clean = λ x y h k e. clean-sound x y (all_opened_and_checked toy 7 3 1 idle) (all_opened_and_checked toy 7 3 1 idle) refl h k e;
  };
  good-share = refl;
  bad-share = refl;
  bad-relay = refl;
  other-session = refl;
  causes = refl;
  readings = refl;
  read-buffers = refl;
  short-reading = refl;
  dirty-reading = refl;
  party-2 = refl;
  sent-there = refl;
  idle-reading = refl;
  idle-2 = refl;
  idle-sent = refl;
  same-books-sent = refl;
  two-books-sent = refl;
  first-settling = refl;
  first-hashes = refl;
  second-settling = refl;
  second-hashes = refl;
  refused-unsettling = refl;
  refused-unhashed = refl;
  idle-unhashed = refl;
  second-ends = refl;
}

-- so all that is promised holds of both sessions
pub agreed : (R : Result) × Conclusions toy 7 3 1 good 1 R
agreed = agreement toy wide 7 3 1 good z 1 computed.premises

pub idle-agreed : (R : Result) × Conclusions toy 7 3 1 idle 0 R
idle-agreed = agreement toy wide 7 3 1 idle z 0 computed.idle-premises
