-- What the private functions suppose and give. No public contract cites this file. Assumes nothing.
use Rattle.std.specs.Prelude.{◌≡◌, true, false, cond, List, ℕ, ◌+◌, ◌≤◌, ◌<◌, ◌^◌, length, Option, Some, None}
use Rattle.std.specs.Borrow.{Bor}
use Rattle.std.proofs.Math.Option as math
use Rattle.limits.specs.Limits.{max_parties, max_plan, group_cause}
use Rattle.bitmap.specs.Bitmap.{only}
use Rattle.plan.specs.Layout.{map_width, skip_entries, skip_block, skip_exchanges, exchanges, fields, n_in, t_in, options_in, has_sender, sender_in, good_at, good_in, good_sender, books_in, holders, behind_books, exchange_in, and_then, empty, laid_out}
use Rattle.plan.specs.declared.Laid.{Laid}
use Rattle.plan.specs.declared.Sender.{Sender}
use Rattle.plan.specs.declared.Group.{Group}
use Rattle.plan.specs.declared.Behind.{Behind}

-- what a definition says that stands behind something
abbrev pub Found : Type 0
Found = math.Option (List ℕ)

-- bytes that were found, by what the definition says
abbrev pub Finds : Option (Bor (List ℕ)) → Found → Type 0
Finds None o = o ≡ math.none
Finds (Some x) o = o ≡ math.some x.now

-- what stands before the books is in order, and they start there
pub record Header (books : ℕ) (s : List ℕ) : Type 0 where
  pub room : good_at s + map_width ≤ length s
  pub known : options_in s < 2 ^ length fields
  pub few : good_in s < 2 ^ n_in s
  pub there : books ≡ good_at s + map_width

pub record HeaderOf (options good : ℕ) (books s : List ℕ) : Type 0 where
  pub header : Header (good_at s + map_width) s
  pub options-is : options ≡ options_in s
  pub good-is : good ≡ good_in s
  pub books-are : books ≡ books_in s

-- what is known of a plan when its options are read
pub record IsRead (n t : ℕ) (s : List ℕ) : Type 0 where
  pub two : 2 ≤ length s
  pub group : group_cause (n_in s) (t_in s) ≡ 0
  pub short : length s ≤ max_plan
  pub n-is : n ≡ n_in s
  pub t-is : t ≡ t_in s
  pub few : n ≤ max_parties

-- the sender of a plan; by it, the map of those whose books are listed, and what stands behind a bad one's block
abbrev pub sender_of : List ℕ → Option Sender
sender_of s = cond (has_sender s) (Some (record { number = sender_in s; good = good_sender s })) None

abbrev pub holders_by : Option Sender → ℕ → ℕ
holders_by None g = g
holders_by (Some x) g = cond x.good (only x.number) 0

abbrev pub skip_sender_by : Option Sender → ℕ → ℕ → List ℕ → Found
skip_sender_by None n g s = math.some s
skip_sender_by (Some x) n g s = cond x.good (math.some s) (skip_block n g s)

-- the books, a bad sender's block and the exchanges take all the bytes, and what follows the books stands there
pub record BehindOf (x : Behind) (g : Group) (holders : ℕ) (sender : Option Sender) (books : List ℕ) : Type 0 where
  pub packets-are : skip_entries g.n holders books ≡ math.some x.packets.now
  pub exchanges-are : skip_sender_by sender g.n g.good x.packets.now ≡ math.some x.exchanges.now
  pub all : empty (skip_exchanges exchanges g.n g.good x.exchanges.now) ≡ true

abbrev pub BehindIs : Option Behind → Group → ℕ → Option Sender → List ℕ → Type 0
BehindIs None g holders sender books =
    empty (and_then (and_then (skip_entries g.n holders books) (skip_sender_by sender g.n g.good)) (skip_exchanges exchanges g.n g.good)) ≡ false
BehindIs (Some x) g holders sender books = BehindOf x g holders sender books

-- what a plan that is laid out well says behind n and t
pub record LaidOf (x : Laid) (s : List ℕ) : Type 0 where
  pub laid : laid_out s ≡ true
  pub room : good_at s + map_width ≤ length s
  pub options-is : x.options ≡ options_in s
  pub good-is : x.good ≡ good_in s
  pub sender-is : x.sender ≡ sender_of s
  pub holders-is : x.holders ≡ holders s
  pub books-are : x.books.now ≡ books_in s
  pub packets-are : x.behind.packets.now ≡ behind_books s
  pub exchanges-are : x.behind.exchanges.now ≡ exchange_in 0 s

abbrev pub LaidIs : Option Laid → List ℕ → Type 0
LaidIs None s = laid_out s ≡ false
LaidIs (Some x) s = LaidOf x s
