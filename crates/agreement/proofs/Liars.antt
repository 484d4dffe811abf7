-- Liars that are seen, n 3 and session number 7: party 1 lies, 2 is unhappy, 3 is happy. In the first session, that of `Instances`, party 2 sees it in the second
-- inbox alone and party 3 in both. In the other it sends party 2 nothing but what passes, and party 3 a forged share and then bytes that cannot be read: only
-- party 3 sees it. Both meet what is supposed, so that the theorem is not empty. By computation over the small hash. Assumes nothing.
use mathlib.Core.Path.{◌≡◌, refl, ap, sym, ◌∙◌}
use mathlib.Core.Logic.{◌≢◌}
use mathlib.Core.Bool.{true, false}
use mathlib.Core.List.{List, [], ◌∷◌, ◌++◌, map}
use mathlib.Core.Option.{Option, some}
use Prim.Native.Nat.{ℕ, ◌≤◌}
use lib.Dec.{lit≤}
use lib.ListN.{replicate}
use Rattle.limits.specs.Limits.{parties, numbered, group_cause}
use Rattle.buffer.specs.Splice.{spliced, tabulate}
use Rattle.buffer.specs.Numbers.{four_bytes}
use Rattle.buffer.specs.Entries.{size, body, rest, fills, bodies}
use Rattle.bitmap.specs.Bitmap.{map_of}
use Rattle.gf256.specs.Field.{times_x, product_of, product, power, inverse}
use Rattle.polynomial.specs.Polynomial.{sum, pow, value, factor, unit, numerator, denominator, basis, through}
use Rattle.erasure.specs.Coding.{share_length, headed, frame, block, share_byte, share_of, share, shares}
use Rattle.erasure.specs.Rebuild.{present, point, framed, other, unframed, joined, recovered}
use Rattle.merkle.specs.Tree.{split_from, split, shape_of, shape, size as leaves, node_string, sides, beside, root, path, folded}
use Rattle.merkle.specs.Hashes.{top_hash, path_hashes}
use Rattle.merkle.specs.Shares.{session_bytes, leaf_string, front_length, leaf_strings, shares_cause, same, leaves_of, root_of, path_of, passes}
use Rattle.packet.specs.Format.{chained, hashes, packet_of, entry_of, share_in, read_of}
use Rattle.packet.specs.Inbox.{inbox_of}
use Rattle.packet.specs.Class.{class_of}
use Rattle.party.specs.State.{at_root, at_bit, at_first, at_second, at_end, blank_state, broken, message_root, happy}
use Rattle.party.specs.Steps.{state_cause, open_cause, open_of, root_cause, agree_root_of, packet_for, bit_cause, outbox_of, agree_bit_of, inbox_cause, first_valid}
use Rattle.party.specs.Steps.{sent_faulty, faulty_shares, faulty_relays, faulty_of, relay_of, held_of, take_shares_of, gathered, result_found, result_of, relays_cause, take_relays_of}
use Rattle.party.specs.declared.Stage.TheVariants.{Second}
use Rattle.agreement.specs.Calls.{agree_root, take_relays, Event, accepted, first, entry, heard, wrote, packet_to, made, events, final, did, opening}
use Rattle.agreement.specs.Faulty.{last, Member, Every, step, Premises, Unnamed, member_of}
use Rattle.agreement.proofs.Lists.{same_some}
use Rattle.agreement.proofs.Faulty.{no-good-named, agreement-premises}
use Rattle.agreement.proofs.Instances.{mix, digest, toy, wide, there, pick, M, z, room, pk, rubbish, first2, first3, second2, second3, P2, P3, good, calls, each}
use Rattle.agreement.proofs.Instances as instances

-- the maps that a list of calls gives: after each call in the state, and with what it gives
abbrev maps_of : List Event → List (ℕ × ℕ)
maps_of es = map (λ (e : Event). (e.reply.state.faulty, e.reply.faulty)) es

-- the other session: the liar's share and relay for party 2 pass, and what party 3 gets of it is as in the first. Party 3's result is read again
abbrev kind2 : List ℕ
kind2 = inbox_of (pk 1 ∷ [] ∷ pk 3 ∷ [])

abbrev A2 : Member
A2 = record { own = 2; t = 1; message = 0x43 ∷ []; calls = calls z first2 kind2 }

abbrev A3 : Member
A3 = record { own = 3; t = 1; message = M; calls = calls z first3 second3 ++ (take_relays rubbish room ∷ []) }

abbrev members : List Member
members = A2 ∷ A3 ∷ []

abbrev at : ℕ → Member → Option Event
at k A = step toy 7 3 members k A

-- what A heard from B in the two exchanges
abbrev Shared : Member → Member → Type 0
Shared A B = heard 3 B.own (at 4 A) ≡ packet_to 3 A.own (at 3 B)

abbrev Relayed : Member → Member → Type 0
Relayed A B = heard 3 B.own (at 5 A) ≡ wrote (at 4 B)

pub record Computed : Type 0 where
  -- the first session: the accepted step 5 is the twelfth call of the unhappy party 2, and it is read once more; the happy party 3 names the liar from step 4 on
  pub maps2 : maps_of (events toy (opening toy 7 3 1 2 (0x43 ∷ [])).state P2.calls)
      ≡ replicate 11 (0, 0) ++ ((1, 1) ∷ (1, 0) ∷ (1, 1) ∷ (1, 0) ∷ (1, 0) ∷ [])
  pub maps3 : maps_of (events toy (opening toy 7 3 1 3 M).state P3.calls) ≡ (0, 0) ∷ (0, 0) ∷ (1, 0) ∷ (1, 1) ∷ []
  -- what the liar sent party 2 passes in the first inbox and not in the second; what it sent party 3 passes in neither
  pub sent2 : (sent_faulty toy 7 3 2 z first2 2 1 ≡ false) × (sent_faulty toy 7 3 2 z second2 1 1 ≡ true)
  pub sent3 : (sent_faulty toy 7 3 3 z first3 3 1 ≡ true) × (sent_faulty toy 7 3 3 z second3 1 1 ≡ true)
  -- the other session: what it sent party 2 passes in both
  pub kind : (sent_faulty toy 7 3 2 z first2 2 1 ≡ false) × (sent_faulty toy 7 3 2 z kind2 1 1 ≡ false)
  -- so party 3's map names the liar and no other, also with the result read again, and party 2's names none
  pub unseen : maps_of (events toy (opening toy 7 3 1 2 (0x43 ∷ [])).state A2.calls) ≡ replicate 4 (0, 0)
  pub seen : maps_of (events toy (opening toy 7 3 1 3 M).state A3.calls) ≡ (0, 0) ∷ (0, 0) ∷ (1, 0) ∷ (1, 1) ∷ (1, 1) ∷ []
  pub lasts : map (λ (A : Member). (last toy 7 3 A.t A.own A.message A.calls).faulty) members ≡ 0 ∷ 1 ∷ []
  -- each was told z and got what the other sent
  pub told2 : (e : Event) → at 2 A2 ≡ some e → e.call ≡ agree_root z
  pub told3 : (e : Event) → at 2 A3 ≡ some e → e.call ≡ agree_root z
  pub shared : Shared A2 A3 × Shared A3 A2
  pub relayed : Relayed A2 A3 × Relayed A3 A2

pub computed : Computed
unfolding size body rest fills bodies spliced tabulate parties numbered group_cause times_x product_of product power inverse sum pow value factor unit numerator denominator basis through share_length headed frame block share_byte share_of share shares present point framed other unframed joined recovered split_from split shape_of shape leaves node_string sides beside root path folded top_hash path_hashes four_bytes session_bytes leaf_string front_length leaf_strings shares_cause same leaves_of root_of path_of passes chained hashes packet_of entry_of share_in read_of inbox_of class_of at_root at_bit at_first at_second at_end blank_state broken message_root happy state_cause open_cause open_of root_cause agree_root_of packet_for bit_cause outbox_of agree_bit_of inbox_cause first_valid map_of sent_faulty faulty_shares faulty_relays faulty_of relay_of held_of take_shares_of gathered result_found result_of relays_cause take_relays_of accepted first entry made events final did there mix digest
computed = record {
  maps2 = refl;
  maps3 = refl;
  sent2 = (refl, refl);
  sent3 = (refl, refl);
  kind = (refl, refl);
  unseen = refl;
  seen = refl;
  lasts = refl;
  told2 = λ e f. let p = pick (at 2 A2) refl in ap (λ (v : Event). v.call) (same_some (sym f ∙ p.1));
  told3 = λ e f. let p = pick (at 2 A3) refl in ap (λ (v : Event). v.call) (same_some (sym f ∙ p.1));
  shared = (refl, refl);
  relayed = (refl, refl);
}

-- so both sessions meet what is supposed
pub premises : Premises toy 7 3 members z
premises = record {
  numbered = each A2 A3 (λ A. 1 ≤ A.own) (lit≤ tt) (lit≤ tt);
  root = each A2 A3 (λ A. (e : Event) → at 2 A ≡ some e → e.call ≡ agree_root z) computed.told2 computed.told3;
  first_inbox = each A2 A3 (λ A. (e : Event) → at 4 A ≡ some e → Every toy 7 3 members (λ B. A.own ≢ B.own → heard 3 B.own (some e) ≡ packet_to 3 A.own (at 3 B)))
      (λ e f. each A2 A3 (λ B. 2 ≢ B.own → heard 3 B.own (some e) ≡ packet_to 3 2 (at 3 B)) (λ d. absurd (d refl))
      (λ d. sym (ap (heard 3 3) f) ∙ computed.shared.0))
      (λ e f. each A2 A3 (λ B. 3 ≢ B.own → heard 3 B.own (some e) ≡ packet_to 3 3 (at 3 B)) (λ d. sym (ap (heard 3 2) f) ∙ computed.shared.1)
      (λ d. absurd (d refl)));
  second_inbox = each A2 A3 (λ A. (e : Event) → at 5 A ≡ some e → e.before.stage ≡ Second
      → Every toy 7 3 members (λ B. A.own ≢ B.own → heard 3 B.own (some e) ≡ wrote (at 4 B)))
      (λ e f w. each A2 A3 (λ B. 2 ≢ B.own → heard 3 B.own (some e) ≡ wrote (at 4 B)) (λ d. absurd (d refl))
      (λ d. sym (ap (heard 3 3) f) ∙ computed.relayed.0))
      (λ e f w. each A2 A3 (λ B. 3 ≢ B.own → heard 3 B.own (some e) ≡ wrote (at 4 B)) (λ d. sym (ap (heard 3 2) f) ∙ computed.relayed.1)
      (λ d. absurd (d refl)));
}

pub first-premises : Premises toy 7 3 (map (member_of 1) good) z
first-premises = agreement-premises toy 7 3 1 good z 1 (instances.computed).premises

-- and what is promised holds
pub unnamed : Every toy 7 3 members (λ A. Every toy 7 3 members (λ B. Unnamed toy 7 3 members A B))
unnamed = no-good-named toy wide 7 3 members z premises
