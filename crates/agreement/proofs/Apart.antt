-- Why agreement supposes one session number: n 3, t 1, party 3 is silent, and parties 1 and 2 open with one message, but with numbers 7 and 8. All else that
-- agreement supposes is there, and they end with two results. Computed over the small hash. Assumes nothing.
use mathlib.Core.Path.{◌≡◌, refl}
use mathlib.Core.Bool.{true, false}
use mathlib.Core.List.{List, [], ◌∷◌, ◌++◌, map}
use mathlib.Core.Option.{Option, some}
use Prim.Native.Nat.{ℕ}
use lib.ListN.{replicate}
use Rattle.limits.specs.Limits.{parties, numbered, group_cause}
use Rattle.buffer.specs.Splice.{spliced, tabulate}
use Rattle.buffer.specs.Numbers.{four_bytes}
use Rattle.buffer.specs.Entries.{size, body, rest, fills, bodies}
use Rattle.bitmap.specs.Bitmap.{map_of}
use Rattle.gf256.specs.Field.{times_x, product_of, product, power, inverse}
use Rattle.polynomial.specs.Polynomial.{sum, pow, value, factor, unit, numerator, denominator, basis, through}
use Rattle.erasure.specs.Coding.{share_length, headed, frame, block, share_byte, share_of, share, shares}
use Rattle.erasure.specs.Rebuild.{present, point, framed, other, unframed, joined, recovered}
use Rattle.merkle.specs.Tree.{split_from, split, shape_of, shape, size as leaves, node_string, sides, beside, root, path, folded}
use Rattle.merkle.specs.Strings.{tree_strings, fold_strings, check_strings}
use Rattle.merkle.specs.Hashes.{top_hash, path_hashes}
use Rattle.merkle.specs.Shares.{session_bytes, leaf_string, front_length, leaf_strings, shares_cause, same, leaves_of, root_of, path_of, passes, coding_strings, strings_of}
use Rattle.packet.specs.Format.{chained, hashes, packet_of, entry_of, share_in, read_of}
use Rattle.packet.specs.Inbox.{inbox_of}
use Rattle.packet.specs.Class.{faulty, class_of, class_strings}
use Rattle.party.specs.State.{nothing, settled, at_root, at_bit, at_first, at_second, at_end, blank_state, broken, message_root, happy}
use Rattle.party.specs.Steps.{state_cause, open_cause, open_of, root_cause, agree_root_of, packet_for, bit_cause, outbox_of, agree_bit_of, inbox_cause, first_valid}
use Rattle.party.specs.Steps.{sent_faulty, faulty_shares, faulty_relays, faulty_of, relay_of, held_of, take_shares_of, gathered, result_found, result_of, relays_cause, take_relays_of}
use Rattle.party.specs.Strings.{judged_strings, share_strings}
use Rattle.agreement.specs.Calls.{Call, Event, accepted, first, entry, made, events, final}
use Rattle.agreement.specs.Calls.{strings_over, checked_in, did, opened_and_checked, heard, packet_to, wrote, bit_given, first_of, result_after}
use Rattle.agreement.proofs.Instances.{mix, digest, toy, clean_of, clean, there, M, root_under, packet_under, calls}

-- the root that party 1 opened with is agreed; each party's inboxes hold what the other wrote
abbrev calls1 : List Call
calls1 = calls (root_under 7) (inbox_of ([] ∷ [] ∷ [] ∷ [])) (inbox_of ([] ∷ [] ∷ [] ∷ []))

abbrev calls2 : List Call
calls2 = calls (root_under 7) (inbox_of (packet_under 7 2 ∷ [] ∷ [] ∷ [])) (inbox_of (packet_under 7 1 ∷ [] ∷ [] ∷ []))

abbrev first1 : ℕ → Option Event
first1 k = first_of toy 7 3 1 1 M calls1 k

abbrev first2 : ℕ → Option Event
first2 k = first_of toy 8 3 1 2 M calls2 k

abbrev strings : List (List ℕ)
strings = opened_and_checked toy 7 3 1 1 M calls1 ++ opened_and_checked toy 8 3 1 2 M calls2

pub record Computed : Type 0 where
  -- their roots differ, though they have one message
  pub roots : same (root_under 7) (root_under 8) ≡ false
  -- all their steps were accepted; party 1 said 1 and party 2 said 0, so that the short agreement may give either bit
  pub accepted1 : map (λ (k : ℕ). there (first1 k)) (2 ∷ 3 ∷ 4 ∷ 5 ∷ []) ≡ replicate 4 true
  pub accepted2 : map (λ (k : ℕ). there (first2 k)) (2 ∷ 3 ∷ 4 ∷ 5 ∷ []) ≡ replicate 4 true
  pub bits : (bit_given (first1 2) ≡ some 1) × (bit_given (first2 2) ≡ some 0)
  -- each got what the other sent
  pub shares-given : (heard 3 1 (first2 4) ≡ packet_to 3 2 (first1 3)) × (heard 3 2 (first1 4) ≡ packet_to 3 1 (first2 3))
  pub relays-given : (heard 3 1 (first2 5) ≡ wrote (first1 4)) × (heard 3 2 (first1 5) ≡ wrote (first2 4))
  -- no two different strings of their openings and path checks have one hash
  pub no-collision : clean strings strings ≡ true
  -- under its own number nothing that party 1 sent passes at party 2
  pub not-passing : (class_of toy 8 3 2 (root_under 7) (packet_under 7 2) ≡ faulty) × (class_of toy 8 3 1 (root_under 7) (packet_under 7 1) ≡ faulty)
  -- so one ends with the message that both opened with, and the other with nothing
  pub ends1 : result_after toy 7 3 1 1 M calls1 ≡ some (settled M)
  pub ends2 : result_after toy 8 3 1 2 M calls2 ≡ some nothing

pub computed : Computed
unfolding size body rest fills bodies spliced tabulate parties numbered group_cause times_x product_of product power inverse sum pow value factor unit numerator denominator basis through share_length headed frame block share_byte share_of share shares present point framed other unframed joined recovered split_from split shape_of shape leaves node_string sides beside root path folded tree_strings fold_strings check_strings top_hash path_hashes four_bytes session_bytes leaf_string front_length leaf_strings shares_cause same leaves_of root_of path_of passes coding_strings strings_of chained hashes packet_of entry_of share_in read_of inbox_of class_of class_strings at_root at_bit at_first at_second at_end blank_state broken message_root happy state_cause open_cause open_of root_cause agree_root_of packet_for bit_cause outbox_of agree_bit_of inbox_cause first_valid map_of sent_faulty faulty_shares faulty_relays faulty_of relay_of held_of take_shares_of gathered result_found result_of relays_cause take_relays_of accepted first entry made events final share_strings judged_strings checked_in strings_over did opened_and_checked clean clean_of there mix digest
computed = record {
  roots = refl;
  accepted1 = refl;
  accepted2 = refl;
  bits = (refl, refl);
  shares-given = (refl, refl);
  relays-given = (refl, refl);
  no-collision = refl;
  not-passing = (refl, refl);
  ends1 = refl;
  ends2 = refl;
}
