-- Document 01, "Checked examples": every example marked [P], one table under one statement.
-- Every number in it is the papers' own: none is named by a definition that the table tests.
use Rattle.std.specs.Prelude.{ℕ, ◌≡◌, List, [], ◌∷◌, map, length, true}
use Rattle.message_rules.specs.Read.{ok}
use Rattle.message_rules.specs.Message.{Request, get_feature, set_feature, timing, save, text, Reply, value, timing_reply, text_fragment, requests, replies, encode, decode, to_display, to_host}
use Rattle.capabilities_rules.specs.Nodes.{nodes_of}
use Rattle.capabilities_rules.specs.Outcome.{Refused, outcome, Accepted}
use Rattle.settings_rules.specs.Settings.{empty_settings, declare_code}
use Rattle.settings_rules.specs.declared.Declaration.{Declaration}
use Rattle.profile_rules.specs.Profile.{profile_of, load_profile}

-- what an example says
pub data Example : Type 0 where
  -- a request to the display, and its bytes
  sent : Request → List ℕ → Example
  -- a reply to the host, and its bytes
  answered : Reply → List ℕ → Example
  -- a capabilities string that is accepted, and its nodes' starts, parents and groups
  accepted : List ℕ → (starts parents groups : List ℕ) → Example
  -- a capabilities string that is refused: the answer number, and its place
  refused_at : List ℕ → (number place : ℕ) → Example
  -- the profile of a display with this one code, and its bytes
  profiled : Declaration → List ℕ → Example

-- a message is built as its bytes, and its bytes are read as the message; a capabilities string is read with room for 512 nodes
abbrev pub Holds : Example → Type 0
Holds (sent m s) = (encode requests to_display m ≡ s) × (decode requests to_display s ≡ ok m)
Holds (answered m s) = (encode replies to_host m ≡ s) × (decode replies to_host s ≡ ok m)
Holds (accepted s starts parents groups) =
    (outcome 512 s ≡ Accepted (length starts))
    × (map (λ x. x.start) (nodes_of s) ≡ starts)
    × (map (λ x. x.parent) (nodes_of s) ≡ parents)
    × (map (λ x. x.group) (nodes_of s) ≡ groups)
Holds (refused_at s number place) = outcome 512 s ≡ Refused number place
Holds (profiled d s) =
    let one = (declare_code empty_settings d).settings in
    (profile_of one ≡ s) × (load_profile one s ≡ record { settings = one; answer = 0; position = record { 0 = length s } })

abbrev pub All : List Example → Type 0
All [] = Unit {0}
All (x ∷ xs) = Holds x × All xs

abbrev pub examples : List Example
examples =
    -- "Get 10"
    sent (get_feature 0x10) (0x51 ∷ 0x82 ∷ 0x01 ∷ 0x10 ∷ 0xAC ∷ [])
    -- "Set 10 to 100"
    ∷ sent (set_feature 0x10 100) (0x51 ∷ 0x84 ∷ 0x03 ∷ 0x10 ∷ 0x00 ∷ 0x64 ∷ 0xCC ∷ [])
    -- source 003: Timing and Save
    ∷ sent timing (0x51 ∷ 0x81 ∷ 0x07 ∷ 0xB9 ∷ [])
    ∷ sent save (0x51 ∷ 0x81 ∷ 0x0C ∷ 0xB2 ∷ [])
    -- "max 100, present 50"
    ∷ answered (value 0 0x10 0 100 50) (0x6E ∷ 0x88 ∷ 0x02 ∷ 0x00 ∷ 0x10 ∷ 0x00 ∷ 0x00 ∷ 0x64 ∷ 0x00 ∷ 0x32 ∷ 0xF2 ∷ [])
    -- "13340 and 6000"
    ∷ answered (timing_reply 0x02 13340 6000) (0x6E ∷ 0x06 ∷ 0x4E ∷ 0x02 ∷ 0x34 ∷ 0x1C ∷ 0x17 ∷ 0x70 ∷ 0x3B ∷ [])
    -- "Text at 0"
    ∷ sent (text 0) (0x51 ∷ 0x83 ∷ 0xF3 ∷ 0x00 ∷ 0x00 ∷ 0x4F ∷ [])
    -- "empty piece at 0"
    ∷ answered (text_fragment 0 []) (0x6E ∷ 0x83 ∷ 0xE3 ∷ 0x00 ∷ 0x00 ∷ 0x5E ∷ [])
    -- (vcp(10 14(05 08))): "starts 1, 5, 8, 11, 14; parents 65,535, 0, 0, 2, 2; groups at nodes 0 and 2"
    ∷ accepted (0x28 ∷ 0x76 ∷ 0x63 ∷ 0x70 ∷ 0x28 ∷ 0x31 ∷ 0x30 ∷ 0x20 ∷ 0x31 ∷ 0x34 ∷ 0x28 ∷ 0x30 ∷ 0x35 ∷ 0x20 ∷ 0x30 ∷ 0x38 ∷ 0x29 ∷ 0x29 ∷ 0x29 ∷ [])
    (1 ∷ 5 ∷ 8 ∷ 11 ∷ 14 ∷ []) (65535 ∷ 0 ∷ 0 ∷ 2 ∷ 2 ∷ []) (1 ∷ 0 ∷ 1 ∷ 0 ∷ 0 ∷ [])
    -- (): "no nodes"
    ∷ accepted (0x28 ∷ 0x29 ∷ []) [] [] []
    -- (a(b)(c)): "13 at 5"
    ∷ refused_at (0x28 ∷ 0x61 ∷ 0x28 ∷ 0x62 ∷ 0x29 ∷ 0x28 ∷ 0x63 ∷ 0x29 ∷ 0x29 ∷ []) 13 5
    -- "Sheet of code 10 at 50"
    ∷ profiled (record { code = 0x10; readable = true; writable = true; kind = 0; continuous = true; maximum = 100; present = 50 }) (0x05 ∷ 0x00 ∷ 0x01 ∷ 0x00 ∷ 0x10 ∷ 0x32 ∷ 0x00 ∷ [])
    ∷ []
