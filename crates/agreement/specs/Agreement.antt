-- Agreement (demand 3): one claim about all good parties of a session (document 01: good boxes, a sitting) and their lists of calls
-- together. What is supposed of them, what then holds, and the claim that it does. The hash is a parameter; demand 3 is the claim at
-- SHA-256, and it is proved there and for every other hash of 32 bytes (proofs/Agreement). Assumes nothing.
use Rattle.std.specs.Prelude.{◌≡◌, ◌⊎◌, ◌≢◌, Bool, true, false, cond, ℕ, zero, suc, ◌+◌, ◌-◌, ◌*◌, ◌≤◌, eqb, length}
use mathlib.Core.List.{List, [], ◌∷◌, ◌++◌, map, Memᴰ}
use Rattle.std.proofs.Math.Option.{Option, some}
use Rattle.buffer.specs.Bounds.{Bytes}
use Rattle.erasure.specs.Coding.{share_length}
use Rattle.merkle.specs.Height.{height}
use Rattle.party.specs.State.{Result, nothing, settled}
use Rattle.agreement.specs.Calls.{Call, agree_root, agree_bit, step_of, Event, heard, wrote, packet_to, bit_given}
use Rattle.agreement.specs.Calls.{opening, did, first_of, result_after, opened_and_checked, settling, hashed, sent_by}

-- a good party: its number, its message, and the calls that it gets after its opening
pub record Good : Type 0 where
  pub own : ℕ
  pub message : List ℕ
  pub calls : List Call

-- k is one of these numbers; they are all different
unfoldable pub among : ℕ → List ℕ → Bool
among k [] = false
among k (j ∷ js) = cond (eqb k j) true (among k js)

unfoldable pub different : List ℕ → Bool
different [] = true
different (k ∷ ks) = cond (among k ks) false (different ks)

-- how many of the k numbers from j on are not among these
unfoldable pub absent : ℕ → ℕ → List ℕ → ℕ
absent zero j js = 0
absent (suc k) j js = cond (among j js) 0 1 + absent k (j + 1) js

unfoldable pub sum_over : {A : Type 0} → (A → ℕ) → List A → ℕ
sum_over f [] = 0
sum_over f (a ∷ l) = f a + sum_over f l

unfoldable pub join_over : {A : Type 0} → (A → List (List ℕ)) → List A → List (List ℕ)
join_over f [] = []
join_over f (a ∷ l) = f a ++ join_over f l

module _ (H : List ℕ → List ℕ) (session n t : ℕ) (good : List Good) where
  -- it holds of every good party
  abbrev pub Each : (Good → Type 0) → Type 0
  Each P = (A : Good) → Memᴰ A good → P A

  abbrev pub owns : List ℕ
  owns = map (λ (A : Good). A.own) good

  -- a party's first accepted call of step k
  abbrev pub step : ℕ → Good → Option Event
  step k A = first_of H session n t A.own A.message A.calls k

  -- all opened with messages of bytes, with one session number, n and t, under different numbers; bad are the numbers up to n that no good party bears,
  -- at most t. Nothing is supposed of other arguments' bytes
  pub record OpenedAll : Type 0 where
    pub bytes : Each (λ A. Bytes A.message)
    pub accepted : Each (λ A. (opening H session n t A.own A.message).cause ≡ 0)
    pub apart : different owns ≡ true
    pub bad : absent n 1 owns ≤ t

  -- steps 2 and 3 were accepted, first with the agreed root z and the agreed bit; on bit 1 also steps 4 and 5
  pub record CalledAll (z : List ℕ) (bit : ℕ) : Type 0 where
    pub step2 : Each (λ A. (e : Event) × (step 2 A ≡ some e) × (e.call ≡ agree_root z))
    pub step3 : Each (λ A. (e : Event) × (out : List ℕ) × (step 3 A ≡ some e) × (e.call ≡ agree_bit bit out))
    pub step4 : bit ≡ 1 → Each (λ A. (e : Event) × (step 4 A ≡ some e))
    pub step5 : bit ≡ 1 → Each (λ A. (e : Event) × (step 5 A ≡ some e))

  -- the rule of the short agreement: if all good parties put in the same value, it is the one that all got
  abbrev pub Rule : {T : Type 0} → (Good → Option T) → T → Type 0
  Rule {T} given got = (v : T) → Each (λ A. given A ≡ some v) → got ≡ v

  -- for the root it was given the openings' roots, for the bit the bits of those steps 2
  pub record Ruled (z : List ℕ) (bit : ℕ) : Type 0 where
    pub root : Rule (λ A. some (opening H session n t A.own A.message).root) z
    pub vote : Rule (λ A. bit_given (step 2 A)) bit

  -- what a good party B sent to A, and nothing else, stands under B's number in A's inbox. Of bad numbers, and of A's own, nothing is said
  abbrev pub Delivered : (Good → Good → List ℕ) → (Good → Good → List ℕ) → Type 0
  Delivered got sent = Each (λ A. Each (λ B. A.own ≢ B.own → got A B ≡ sent B A))

  -- in the first inbox B's packet for A from that step 3, in the second B's relay from that step 4
  pub record DeliveredAll : Type 0 where
    pub first_inbox : Delivered (λ A B. heard n B.own (step 4 A)) (λ B A. packet_to n A.own (step 3 B))
    pub second_inbox : Delivered (λ A B. heard n B.own (step 5 A)) (λ B A. wrote (step 4 B))

  -- of good parties, all taken together: the strings of their openings and of the path checks that settle what they relay and rebuild; these and those of the
  -- messages coded again, which are no others under these premises (`AgreedRoot.NoStringMore`); and all strings that they hashed
  abbrev pub all_opened_and_checked : List (List ℕ)
  all_opened_and_checked = join_over (λ (A : Good). opened_and_checked H session n t A.own A.message A.calls) good

  abbrev pub all_settling : List (List ℕ)
  all_settling = join_over (λ (A : Good). settling H session n t A.own A.message A.calls) good

  abbrev pub all_hashed : List (List ℕ)
  all_hashed = join_over (λ (A : Good). hashed H session n t A.own A.message A.calls) good

  -- no two different ones of the first have one hash; so it is where no two of all that they hashed do (`Strings.clean-of-all`)
  abbrev pub Clean : Type 0
  Clean = (x y : List ℕ) → Memᴰ x all_opened_and_checked → Memᴰ y all_opened_and_checked → H x ≡ H y → x ≡ y

  -- what is supposed
  pub record Premises (z : List ℕ) (bit : ℕ) : Type 0 where
    pub opened : OpenedAll
    pub called : CalledAll z bit
    pub ruled : Ruled z bit
    pub delivered : bit ≡ 1 → DeliveredAll
    pub clean : Clean

  -- the bytes that good parties sent
  abbrev pub sent : ℕ
  sent = sum_over (λ (A : Good). sent_by H session n t A.own A.message A.calls) good

  -- what then holds of one result R: every good party's state holds it after the list, and every accepted step 5 gave it, the first and all that read
  -- it again; on bit 0 it is nothing; it is nothing or a message that some good party opened with, and the common one where all opened with one; the
  -- bytes sent are within the bound, and none if the result is nothing
  pub record Conclusions (bit : ℕ) (R : Result) : Type 0 where
    pub holds : Each (λ A. result_after H session n t A.own A.message A.calls ≡ some R)
    pub gives : Each (λ A. (e : Event) → Memᴰ e (did H session n t A.own A.message A.calls) → step_of e.call ≡ 5
        → e.reply.result ≡ some R)
    pub void : bit ≡ 0 → R ≡ nothing
    pub somebodys : (R ≡ nothing) ⊎ ((A : Good) × Memᴰ A good × (R ≡ settled A.message))
    pub common : (m : List ℕ) → Each (λ A. A.message ≡ m) → R ≡ settled m
    pub bound : (m : List ℕ) → R ≡ settled m
        → sent ≤ 2 * length good * (n - 1) * (4 + share_length (n - t) (length m) + 32 * height n)
    pub free : R ≡ nothing → sent ≡ 0

-- demand 3, for all session numbers, n and t, all good parties, all agreed values
abbrev pub Agreement : (List ℕ → List ℕ) → Type 0
Agreement H =
    (session n t : ℕ) (good : List Good) (z : List ℕ) (bit : ℕ) → Premises H session n t good z bit → (R : Result) × Conclusions H session n t good bit R
