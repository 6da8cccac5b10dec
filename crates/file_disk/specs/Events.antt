-- The calls on a file, the content of the file after them, and what a crash may leave of it.
use Rattle.std.specs.Prelude.{◌≡◌, ◌≤◌, ◌⊎◌, ℕ, ◌+◌, Bool, true, false, List, [], ◌∷◌, ◌++◌, length, take, drop, if◌then◌else◌, refl}
use Rattle.std.specs.Coded.{Coded, code_by, coded_bool, coded_list, coded_ℕ, coded×, coded⊎}
use Rattle.std.proofs.Common.{arith, inl, inr}
use Rattle.journal.specs.Disk.{PartlyCut, Torn}

-- a call with its arguments; the truth value says whether the call succeeded. A call that opens the file is an event (`opened`) only if it
-- succeeded
pub data Event : Type 0 where
  opened : List ℕ → Event
  written : ℕ → List ℕ → Bool → Event
  cut : ℕ → Bool → Event
  synced : Bool → Event

-- ---- how an event is coded as data

abbrev Parts : Type 0
Parts = List ℕ ⊎ ((ℕ × (List ℕ × Bool)) ⊎ ((ℕ × Bool) ⊎ Bool))

abbrev parts_of : Event → Parts
parts_of (opened bytes) = inl bytes
parts_of (written at bytes done) = inr (inl (at, (bytes, done)))
parts_of (cut len done) = inr (inr (inl (len, done)))
parts_of (synced done) = inr (inr (inr done))

abbrev of_parts : Parts → Event
of_parts (inl bytes) = opened bytes
of_parts (inr (inl p)) = written p.0 p.1.0 p.1.1
of_parts (inr (inr (inl p))) = cut p.0 p.1
of_parts (inr (inr (inr done))) = synced done

pub of_parts-parts_of : (e : Event) → of_parts (parts_of e) ≡ e
of_parts-parts_of (opened bytes) = refl
of_parts-parts_of (written at bytes done) = refl
of_parts-parts_of (cut len done) = refl
of_parts-parts_of (synced done) = refl

abbrev pub event_code : Coded Event
event_code =
    code_by Parts (coded⊎ (coded_list coded_ℕ) (coded⊎ (coded× coded_ℕ (coded× (coded_list coded_ℕ) coded_bool)) (coded⊎ (coded× coded_ℕ coded_bool) coded_bool)))
    parts_of of_parts of_parts-parts_of

-- ---- the file after some events; the first event of a list is the newest

abbrev pub file_bytes_after : Event → List ℕ → List ℕ
file_bytes_after (opened bytes) old = bytes
file_bytes_after (written at bytes done) old = if done then take at old ++ bytes ++ drop (at + length bytes) old else old
file_bytes_after (cut len done) old = if done then take len old else old
file_bytes_after (synced done) old = old

-- the bytes of the file after the events, if no call has failed. A call that failed counts as changing nothing, although the system may
-- have changed the file
abbrev pub file_bytes : List Event → List ℕ
file_bytes [] = []
file_bytes (e ∷ es) = file_bytes_after e (file_bytes es)

abbrev pub left_after : Event → List ℕ → (List ℕ → Type 0) → List ℕ → Type 0
left_after (opened bytes) old left c = c ≡ bytes
left_after (written at bytes done) old left c = (d : List ℕ) × left d × Torn at (length bytes) d c
left_after (cut len done) old left c = (d : List ℕ) × left d × PartlyCut len d c
left_after (synced done) old left c = left c × (done ≡ true → c ≡ old)

-- a crash after the events may leave a file with the bytes c
abbrev pub MayLeave : List Event → List ℕ → Type 0
MayLeave [] c = c ≡ []
MayLeave (e ∷ es) c = left_after e (file_bytes es) (MayLeave es) c

-- a crash could have left a file with the bytes c at some moment at which t or more of the events had happened
abbrev pub LeftSince : List Event → ℕ → List ℕ → Type 0
LeftSince [] t c = (t ≤ 0) × MayLeave [] c
LeftSince (e ∷ es) t c = ((t ≤ length (e ∷ es)) × MayLeave (e ∷ es) c) ⊎ LeftSince es t c

abbrev pub is_failure : Event → Bool
is_failure (opened bytes) = false
is_failure (written at bytes true) = false
is_failure (written at bytes false) = true
is_failure (cut len true) = false
is_failure (cut len false) = true
is_failure (synced true) = false
is_failure (synced false) = true

-- how many calls failed
abbrev pub failures : List Event → ℕ
failures [] = 0
failures (e ∷ es) = if is_failure e then failures es + 1 else failures es

-- ---- laws for the trait `Disk`: its `moment` is the number of the events so far

pub counts : (es : List Event) (t : ℕ) (c : List ℕ) → t ≤ length es → MayLeave es c → LeftSince es t c
counts [] t c le left = (le, left)
counts (e ∷ es) t c le left = inl (le, left)

since-bounded : (es : List Event) (t : ℕ) (c : List ℕ) → LeftSince es t c → t ≤ length es
since-bounded [] t c left = left.0
since-bounded (e ∷ es) t c (inl here) = here.0
since-bounded (e ∷ es) t c (inr earlier) = omega (arith, since-bounded es t c earlier)

pub only : (es : List Event) (c : List ℕ) → LeftSince es (length es) c → MayLeave es c
only [] c left = left.1
only (e ∷ es) c (inl here) = here.1
only (e ∷ es) c (inr earlier) = absurd (let low = since-bounded es (length (e ∷ es)) c earlier in omega arith)
