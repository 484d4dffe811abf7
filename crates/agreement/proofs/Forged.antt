-- Sessions in which the root's check tells, computed over the small hash of `Instances`. In the first the two liars of three have a tree made over shares that are
-- no message's, and the agreement gave its root and the bit 1 though no good party was happy: the bit's rule is broken there, and no two strings collide. Without
-- the check the good party ends with a message that nobody opened with; with it, with nothing. In the second, of four with two liars, the rule is kept: the good
-- parties end with the message of one of them and with nothing, and with no other. In the third, with one liar of three, two strings collide, and a forged inbox
-- comes first with a short buffer: refused without the check, it is an accepted nothing with it. Assumes nothing.
use mathlib.Core.Path.{◌≡◌, refl, sym, ap, ◌∙◌}
use mathlib.Core.Bool.{true, false, cond}
use mathlib.Core.List.{List, [], ◌∷◌, ◌++◌, map, Memᴰ}
use mathlib.Core.Option.{Option, none, some}
use Prim.Native.Nat.{ℕ, ◌+◌, ◌-◌, ◌*◌}
use native.Mathlib.Omega.{arith}
use lib.Dec.{lit<}
use lib.ListN.{length, take, drop, replicate}
use Rattle.limits.specs.Limits.{parties, numbered, group_cause}
use Rattle.buffer.specs.Bounds.{Bytes}
use Rattle.buffer.specs.Splice.{spliced, tabulate}
use Rattle.buffer.specs.Numbers.{four_bytes}
use Rattle.buffer.specs.Entries.{size, body, rest, fills, bodies}
use Rattle.bitmap.specs.Bitmap.{map_of}
use Rattle.gf256.specs.Field.{times_x, product_of, product, power, inverse}
use Rattle.polynomial.specs.Polynomial.{sum, pow, value, factor, unit, numerator, denominator, basis, through}
use Rattle.erasure.specs.Coding.{share_length, headed, frame, block, share_byte, share_of, share, shares}
use Rattle.erasure.specs.Rebuild.{present, point, framed, other, unframed, joined, recovered}
use Rattle.erasure.proofs.Instances.{two_bytes}
use Rattle.merkle.specs.Tree.{split_from, split, shape_of, shape, size as leaves, node_string, sides, beside, root, path, folded}
use Rattle.merkle.specs.Strings.{tree_strings, fold_strings, check_strings}
use Rattle.merkle.specs.Hashes.{top_hash, path_hashes}
use Rattle.merkle.specs.Shares.{session_bytes, leaf_string, front_length, leaf_strings, shares_cause, same, leaves_of, root_of, sides_of, path_of, passes, coding_strings, strings_of}
use Rattle.packet.specs.Format.{chained, hashes, packet_of, entry_of, share_in, read_of}
use Rattle.packet.specs.Inbox.{inbox_of}
use Rattle.packet.specs.Class.{class_of, class_strings}
use Rattle.party.specs.State.{seat_of, Result, nothing, settled, at_root, at_bit, at_first, at_second, at_end, blank_state, broken, message_root, happy}
use Rattle.party.specs.Steps.{state_cause, open_cause, open_of, root_cause, agree_root_of, packet_for, bit_cause, outbox_of, agree_bit_of, inbox_cause, first_valid}
use Rattle.party.specs.Steps.{share_from, sent_faulty, faulty_shares, faulty_relays, faulty_of, relay_of, held_of, take_shares_of, gathered, result_found, result_of, relays_cause, take_relays_of}
use Rattle.party.specs.Strings.{judged_strings, share_strings}
use Rattle.agreement.specs.Calls.{Call, agree_root, agree_bit, take_shares, take_relays, Event, accepted, first, entry, lengths, sent_over, made, events, final}
use Rattle.agreement.specs.Calls.{strings_over, checked_in, judged_in, recoded_in, did, opened_and_checked, judged, recoded, hashed, sent_by, bit_given, opening, result_after}
use Rattle.agreement.specs.Agreement.{Good, owns, among, different, absent, sum_over, join_over, step, Rule, all_hashed}
use Rattle.agreement.proofs.Lists.{same_some}
use Rattle.agreement.specs.AgreedRoot.{found_unchecked, take_relays_unchecked, made_unchecked, events_unchecked, EndsWith, Told, Somebodys}
use Rattle.agreement.proofs.AgreedRoot.{no-invented-message}
use Rattle.agreement.proofs.Instances.{mix, digest, toy, wide, clean, clean_of, there, pick, one_byte, M, room, forged, rubbish, calls, each, only}

-- n 3, t 1: parties 1 and 2 lie. Shares 1 and 2 of a message, and a third that is not its own; the tree over the three, and the packets that pass under its root
abbrev F : List ℕ
F = 0x46 ∷ 0x47 ∷ []

abbrev crooked : List ℕ
crooked = share 2 1 F ++ (share 2 2 F ++ (1 ∷ 77 ∷ []))

abbrev tree : List (List ℕ)
tree = leaves_of toy 0 3 crooked

abbrev y : List ℕ
y = root_of toy 3 tree

abbrev ck : ℕ → List ℕ
ck j = packet_of j (take 2 (drop (2 * (j - 1)) crooked)) (take (length (sides_of 3 j)) (path_of toy 3 j tree))

abbrev first_inbox : List ℕ
first_inbox = inbox_of (ck 3 ∷ [] ∷ [] ∷ [])

abbrev second_inbox : List ℕ
second_inbox = inbox_of (ck 1 ∷ ck 2 ∷ [] ∷ [])

-- party 3 opens with another message
abbrev C3 : Good
C3 = record { own = 3; message = 0x43 ∷ []; calls = calls y first_inbox second_inbox }

abbrev one : List Good
one = C3 ∷ []

-- n 4, t 1: parties 1 and 2 lie, 3 is happy, 4 is not, and hears from the liars nothing that passes
abbrev z4 : List ℕ
z4 = message_root toy 0 4 1 M

abbrev dk : ℕ → List ℕ
dk j = packet_for toy (at_bit (seat_of 0 4 1 3) M z4) j

abbrev D3 : Good
D3 = record {
  own = 3;
  message = M;
  calls = agree_root z4 ∷ agree_bit 1 (replicate 250 7) ∷ take_shares (inbox_of (rubbish ∷ [] ∷ [] ∷ [] ∷ [])) room
      ∷ take_relays (inbox_of (rubbish ∷ [] ∷ [] ∷ dk 4 ∷ [])) room ∷ [];
}

abbrev D4 : Good
D4 = record {
  own = 4;
  message = 0x43 ∷ [];
  calls = agree_root z4 ∷ agree_bit 1 room ∷ take_shares (inbox_of (forged 4 (replicate 32 5 ∷ replicate 32 6 ∷ []) ∷ rubbish ∷ dk 4 ∷ [] ∷ [])) room
      ∷ take_relays (inbox_of (forged 1 (replicate 32 5 ∷ replicate 32 6 ∷ []) ∷ rubbish ∷ dk 3 ∷ [] ∷ [])) room ∷ [];
}

abbrev few : List Good
few = D3 ∷ D4 ∷ []

-- n 3, t 1: party 1 lies, 2 is unhappy, 3 is happy. Its message and a shorter one have the same share 2. The hash gives the leaf string of the shorter one's
-- share 1 the value of the leaf string of the message's own
abbrev N : List ℕ
N = 0x41 ∷ 0x8c ∷ []

abbrev false_share : List ℕ
false_share = share 2 1 (0x41 ∷ [])

unfoldable pub bent : List ℕ → List ℕ
bent s = cond (same s (leaf_string 0 1 false_share)) (toy (leaf_string 0 1 (share 2 1 N))) (toy s)

abbrev w : List ℕ
w = message_root bent 0 3 1 N

abbrev bk : ℕ → List ℕ
bk j = packet_for bent (at_bit (seat_of 0 3 1 3) N w) j

-- the liar's share with the path of the message's own; it comes first, and with no buffer; then, with one, what good parties sent
abbrev false_inbox : List ℕ
false_inbox = inbox_of (packet_of 1 false_share (take (length (sides_of 3 1)) (path_of bent 3 1 (leaves_of bent 0 3 (shares 3 2 N)))) ∷ [] ∷ [] ∷ [])

abbrev E2 : List Call
E2 = agree_root w ∷ agree_bit 1 room ∷ take_shares (inbox_of ([] ∷ [] ∷ bk 2 ∷ [])) room ∷ take_relays false_inbox [] ∷ take_relays (inbox_of ([] ∷ [] ∷ bk 3 ∷ [])) room ∷ []

-- the cause and the result of each call of a list
abbrev told : List Event → List (ℕ × Option Result)
told es = map (λ (e : Event). (e.reply.cause, e.reply.result)) es

pub record Computed : Type 0 where
  -- two liars of three, where one may be
  pub liars : absent 3 1 (owns toy 0 3 1 one) ≡ 2
  -- their packets pass under the root given as agreed
  pub passing : map (λ (j : ℕ). share_from (class_of toy 0 3 j y (ck j))) (1 ∷ 2 ∷ 3 ∷ []) ≡ share 2 1 F ∷ share 2 2 F ∷ (1 ∷ 77 ∷ []) ∷ []
  -- the one good party said 0, so by its rule the bit is not 1; and no two different strings that it hashed have one hash
  pub vote : bit_given (step toy 0 3 1 one 2 C3) ≡ some 0
  pub no-collision : clean (all_hashed toy 0 3 1 one) (all_hashed toy 0 3 1 one) ≡ true
  -- what it rebuilds has another root
  pub other-root : same (message_root toy 0 3 1 F) y ≡ false
  -- without the check it ends with that, with the check with nothing
  pub invented : told (events_unchecked toy (opening toy 0 3 1 3 (0x43 ∷ [])).state C3.calls) ≡ (0, none) ∷ (0, none) ∷ (0, none) ∷ (0, some (settled F)) ∷ []
  pub not_taken : told (events toy (opening toy 0 3 1 3 (0x43 ∷ [])).state C3.calls) ≡ (0, none) ∷ (0, none) ∷ (0, none) ∷ (0, some nothing) ∷ []
  -- it hashed the five strings of its own message's tree, two for the share that it took, three for each relay, and the five of the message coded again, though
  -- that was not taken
  pub hashes : length (hashed toy 0 3 1 3 (0x43 ∷ []) C3.calls) ≡ 5 + 2 + 3 + 3 + 5
  -- four parties, two liars where one may be, the rule kept
  pub two-of-four : absent 4 1 (owns toy 0 4 1 few) ≡ 2
  pub ruled : Told toy 0 4 1 few z4 1
  pub party-3 : result_after toy 0 4 1 3 M D3.calls ≡ some (settled M)
  pub party-4 : result_after toy 0 4 1 4 (0x43 ∷ []) D4.calls ≡ some nothing
  -- a forged inbox with a short buffer, and then the true one: refused and then accepted without the check; with it accepted at once, with nothing
  pub corner-before : told (events_unchecked bent (opening bent 0 3 1 2 (0x43 ∷ [])).state E2)
      ≡ (0, none) ∷ (0, none) ∷ (0, none) ∷ (9, none) ∷ (0, some (settled N)) ∷ []
  pub corner-now : told (events bent (opening bent 0 3 1 2 (0x43 ∷ [])).state E2)
      ≡ (0, none) ∷ (0, none) ∷ (0, none) ∷ (0, some nothing) ∷ (0, some nothing) ∷ []

pub computed : Computed
unfolding size body rest fills bodies spliced tabulate parties numbered group_cause times_x product_of product power inverse sum pow value factor unit numerator denominator basis through share_length headed frame block share_byte share_of share shares present point framed other unframed joined recovered split_from split shape_of shape leaves node_string sides beside root path folded tree_strings fold_strings check_strings top_hash path_hashes four_bytes session_bytes leaf_string front_length leaf_strings shares_cause same leaves_of root_of path_of passes coding_strings strings_of chained hashes packet_of entry_of share_in read_of inbox_of class_of class_strings at_root at_bit at_first at_second at_end blank_state broken message_root happy state_cause open_cause open_of root_cause agree_root_of packet_for bit_cause outbox_of agree_bit_of inbox_cause first_valid map_of sent_faulty faulty_shares faulty_relays faulty_of relay_of held_of take_shares_of gathered result_found result_of relays_cause take_relays_of accepted first entry lengths sent_over made events final share_strings judged_strings checked_in strings_over judged_in recoded_in did opened_and_checked judged recoded sent_by among different absent sum_over join_over there mix digest found_unchecked take_relays_unchecked made_unchecked events_unchecked clean clean_of bent
computed = record {
  liars = refl;
  passing = refl;
  vote = refl;
  no-collision = refl;
  other-root = refl;
  invented = refl;
  not_taken = refl;
  hashes = refl;
  two-of-four = refl;
  ruled = record {
    bytes = each D3 D4 (λ A. Bytes A.message) (two_bytes 0x41 0x42 (lit< tt) (lit< tt)) (one_byte 0x43 (lit< tt));
    root = each D3 D4 (λ A. (e : Event) × (step toy 0 4 1 few 2 A ≡ some e) × (e.call ≡ agree_root z4))
        (let p = pick (step toy 0 4 1 few 2 D3) refl in (p.0, p.1, refl)) (let p = pick (step toy 0 4 1 few 2 D4) refl in (p.0, p.1, refl));
    same_bit = each D3 D4 (λ A. (e : Event) → step toy 0 4 1 few 3 A ≡ some e → (out : List ℕ) × (e.call ≡ agree_bit 1 out))
        (λ e f. let p = pick (step toy 0 4 1 few 3 D3) refl in (replicate 250 7, ap (λ (v : Event). v.call) (same_some (sym f ∙ p.1))))
        (λ e f. let p = pick (step toy 0 4 1 few 3 D4) refl in (room, ap (λ (v : Event). v.call) (same_some (sym f ∙ p.1))));
    vote = λ v f. same_some (f D3 (Memᴰ.head refl));
  };
  party-3 = refl;
  party-4 = refl;
  corner-before = refl;
  corner-now = refl;
}

-- the bit 1 is against its rule in the first session
pub rule-broken : Rule toy 0 3 1 one (λ A. bit_given (step toy 0 3 1 one 2 A)) 1 → ⊥
rule-broken rule = let e : ◌≡◌ {A = ℕ} 1 0 = rule 0 (only C3 (λ A. bit_given (step toy 0 3 1 one 2 A) ≡ some 0) computed.vote) in omega arith

-- and what is promised of the second holds: nothing, or a good party's message, or a collision
pub promised : (A : Good) → Memᴰ A few → (R : Result) → EndsWith toy 0 4 1 A R → Somebodys toy 0 4 1 few A R
promised = no-invented-message toy wide 0 4 1 few z4 1 computed.ruled
