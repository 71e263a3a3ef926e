-- What the round trips ask of a typed reading of bodies: requests and replies have it, a line for each row of the table.
-- Assumes nothing.
use mathlib.Core.Path.{◌≡◌, refl, sym, ap, ap₂, ◌∙◌}
use mathlib.Core.List.{List, [], ◌∷◌}
use Prim.Native.Nat.{ℕ, zero, suc, ◌+◌, ◌≤◌}
use native.Mathlib.Omega.{arith}
use lib.ListN.{length, get_or, take, drop}
use lib.Seq.{drop-cons, take_all}
use Rattle.message_rules.specs.declared.Direction.TheVariants as way
use Rattle.message_rules.specs.Row.{Kind}
use Rattle.message_rules.specs.Row as kind
use Rattle.message_rules.specs.declared.RequestKind.{RequestKind}
use Rattle.message_rules.specs.declared.RequestKind.TheVariants.{Get, Set, Timing, Save, Text, TableRead, TableWrite}
use Rattle.message_rules.specs.declared.ReplyKind.{ReplyKind}
use Rattle.message_rules.specs.declared.ReplyKind.TheVariants.{Value, TimingReply, TextFragment, TableFragment}
use Rattle.message_rules.specs.Read.{Read, ok, refused}
use Rattle.message_rules.specs.Layout.{direction_of, layout_of}
use Rattle.message_rules.specs.Body.{Body, ValidBody}
use Rattle.message_rules.specs.Message.{Request, get_feature, set_feature, timing, save, text, table_read, table_write, Reply, value, timing_reply, text_fragment, table_fragment, request_of, reply_of, request_as, reply_as, Reading, as_message, requests, replies}

-- ---- a body's fields by their places, as a typed reading names them

-- n elements from place i on
abbrev pub slots : ℕ → ℕ → List ℕ → List ℕ
slots i zero l = []
slots i (suc n) l = get_or l i 0 ∷ slots (suc i) n l

pub slots_are : (i n : ℕ) (l : List ℕ) → i + n ≤ length l → slots i n l ≡ take n (drop i l)
slots_are i zero l h = refl
slots_are i (suc n) l h =
    ap (λ (t : List ℕ). get_or l i 0 ∷ t) (slots_are (suc i) n l (omega arith))
    ∙ ap (take (suc n)) (sym (drop-cons l i 0 (omega arith)))

slots_all : (n : ℕ) (l : List ℕ) → length l ≡ n → slots 0 n l ≡ l
slots_all n l h = slots_are 0 n l (omega arith) ∙ take_all n l (omega arith)

-- the data, where the layout has any
abbrev data_in : ℕ → List ℕ → List ℕ
data_in zero l = []
data_in (suc n) l = l

data_all : (n : ℕ) (l : List ℕ) → length l ≤ n → data_in n l ≡ l
data_all zero [] h = refl
data_all zero (x ∷ l) h = absurd (omega arith)
data_all (suc n) l h = refl

abbrev pub placed : Kind → List ℕ → List ℕ → List ℕ → Body
placed c b w r = record { kind = c; bytes = slots 0 (layout_of c).bytes b; words = slots 0 (layout_of c).words w; rest = data_in (layout_of c).most r }

pub placed_is : (b : Body) → ValidBody b → placed b.kind b.bytes b.words b.rest ≡ b
placed_is b v =
    ap₂ (λ (x y : List ℕ). record { kind = b.kind; bytes = x; words = y; rest = data_in (layout_of b.kind).most b.rest })
    (slots_all _ b.bytes v.bytes_count) (slots_all _ b.words v.words_count)
    ∙ ap (λ (x : List ℕ). record { kind = b.kind; bytes = b.bytes; words = b.words; rest = x }) (data_all _ b.rest v.rest_count)

-- ---- what a reading must satisfy: a line for each row

abbrev pub IsOk : {M : Type 0} → Read M → Type 0
IsOk (ok m) = Unit {0}
IsOk (refused k) = ⊥

pub record Lawful {M : Type 0} (t : Reading M) : Type 0 where
  pub sends : (c : Kind) (b w r : List ℕ) (m : M) → t.typed c b w r ≡ ok m → direction_of c ≡ t.direction
  pub there : (m : M) → as_message t (t.body_for m) ≡ ok m
  -- every kind of this direction is read
  pub reads : (c : Kind) (b w r : List ℕ) → direction_of c ≡ t.direction → IsOk (t.typed c b w r)
  pub back : (c : Kind) (b w r : List ℕ) (m : M) → t.typed c b w r ≡ ok m → t.body_for m ≡ placed c b w r

kept : {M : Type 0} (t : Reading M) (n m : M) (c : Body) → t.body_for n ≡ c → ok n ≡ ok m → t.body_for m ≡ c
kept t n m c h e = let same : m ≡ n = cc in ap t.body_for same ∙ h

never : {M : Type 0} {A : Type 0} (k : ℕ) (m : M) → refused k ≡ ok m → A
never k m e = let z : ◌≡◌ {A = ℕ} 0 1 = cc in absurd (omega arith)

request-there : (m : Request) → as_message requests (requests.body_for m) ≡ ok m
request-there (get_feature c) = refl
request-there (set_feature c v) = refl
request-there timing = refl
request-there save = refl
request-there (text o) = refl
request-there (table_read c o) = refl
request-there (table_write c o d) = refl

request_placed : (c : RequestKind) (b w r : List ℕ) → requests.body_for (request_of c b w r) ≡ placed (kind.Request c) b w r
request_placed Get b w r = refl
request_placed Set b w r = refl
request_placed Timing b w r = refl
request_placed Save b w r = refl
request_placed Text b w r = refl
request_placed TableRead b w r = refl
request_placed TableWrite b w r = refl

request-back : (c : Kind) (b w r : List ℕ) (m : Request) → request_as c b w r ≡ ok m → requests.body_for m ≡ placed c b w r
request-back (kind.Request c) b w r m e = kept requests (request_of c b w r) m _ (request_placed c b w r) e
request-back (kind.Reply c) b w r m e = never 6 m e

reply-there : (m : Reply) → as_message replies (replies.body_for m) ≡ ok m
reply-there (value r c t x p) = refl
reply-there (timing_reply s h v) = refl
reply-there (text_fragment o d) = refl
reply-there (table_fragment o d) = refl

reply_placed : (c : ReplyKind) (b w r : List ℕ) → replies.body_for (reply_of c b w r) ≡ placed (kind.Reply c) b w r
reply_placed Value b w r = refl
reply_placed TimingReply b w r = refl
reply_placed TextFragment b w r = refl
reply_placed TableFragment b w r = refl

reply-back : (c : Kind) (b w r : List ℕ) (m : Reply) → reply_as c b w r ≡ ok m → replies.body_for m ≡ placed c b w r
reply-back (kind.Request c) b w r m e = never 6 m e
reply-back (kind.Reply c) b w r m e = kept replies (reply_of c b w r) m _ (reply_placed c b w r) e

request-sends : (c : Kind) (b w r : List ℕ) (m : Request) → request_as c b w r ≡ ok m → direction_of c ≡ way.Request
request-sends (kind.Request c) b w r m e = refl
request-sends (kind.Reply c) b w r m e = never 6 m e

reply-sends : (c : Kind) (b w r : List ℕ) (m : Reply) → reply_as c b w r ≡ ok m → direction_of c ≡ way.Reply
reply-sends (kind.Request c) b w r m e = never 6 m e
reply-sends (kind.Reply c) b w r m e = refl

-- no kind goes both ways
never_both : {A : Type 0} → way.Request ≡ way.Reply → A
never_both e = let z : ◌≡◌ {A = ℕ} 0 1 = cc in absurd (omega arith)

request_reads : (c : Kind) (b w r : List ℕ) → direction_of c ≡ way.Request → IsOk (request_as c b w r)
request_reads (kind.Request c) b w r e = tt
request_reads (kind.Reply c) b w r e = never_both (sym e)

reply_reads : (c : Kind) (b w r : List ℕ) → direction_of c ≡ way.Reply → IsOk (reply_as c b w r)
reply_reads (kind.Request c) b w r e = never_both e
reply_reads (kind.Reply c) b w r e = tt

pub requests_lawful : Lawful requests
requests_lawful = record { sends = request-sends; there = request-there; reads = request_reads; back = request-back }

pub replies_lawful : Lawful replies
replies_lawful = record { sends = reply-sends; there = reply-there; reads = reply_reads; back = reply-back }
