-- The records of a batch: a key, a sign and an amount; and what each makes of the balance of its key. (The record form is this project's
-- own.)
use Rattle.std.specs.Prelude.{◌≡◌, ◌≤◌, ℕ, ◌+◌, ◌-◌, ◌==◌, ◌&&◌, ◌||◌, List, [], ◌∷◌, length, take, drop, nat_le, if◌then◌else◌, Option, Some, None}
use Rattle.std.specs.Str.{bytes_eq}
use Rattle.std.specs.Fmt.{decimal}
use Rattle.std.specs.Str.Parse.{digits_value}
use Rattle.flow_batch.specs.declared.TheConstants.{AMOUNT_LIMIT}
use Rattle.flow_batch.specs.declared.records.Posting.{Posting}
use Rattle.flow_batch.specs.declared.records.Posting.TheVariants.{Applied, Refused}

-- The key of a text: its first bytes, or the whole text where it is shorter.
abbrev pub key_in : ℕ → List ℕ → List ℕ
key_in keylen text = take keylen text

-- The amount that the bytes spell: they are the decimal digits of a number up to the greatest amount.
abbrev pub amount_in : List ℕ → Option ℕ
amount_in bytes = if bytes_eq (decimal (digits_value 10 bytes)) bytes && nat_le (digits_value 10 bytes) AMOUNT_LIMIT then Some (digits_value 10 bytes) else None

-- The balance is set where there is none.
abbrev pub set_to : Option ℕ → ℕ → Posting
set_to None amount = Applied (Some amount)
set_to (Some balance) amount = Refused

-- The amount is added to a balance, as long as the sum is an amount.
abbrev pub adds : Option ℕ → ℕ → Posting
adds None amount = Refused
adds (Some balance) amount = if nat_le (balance + amount) AMOUNT_LIMIT then Applied (Some (balance + amount)) else Refused

-- The amount is taken from a balance that has it.
abbrev pub takes : Option ℕ → ℕ → Posting
takes None amount = Refused
takes (Some balance) amount = if nat_le amount balance then Applied (Some (balance - amount)) else Refused

-- The balance is erased where it is the amount.
abbrev pub erases : Option ℕ → ℕ → Posting
erases None amount = Refused
erases (Some balance) amount = if balance == amount then Applied None else Refused

-- What a record with this sign and amount makes of a balance: `M` and `N` set it, `+` adds to it, `-` takes from it, and `X` erases it.
abbrev pub signed : ℕ → Option ℕ → ℕ → Posting
signed sign balance amount =
    if sign == 77 || sign == 78 then set_to balance amount
    else if sign == 43 then adds balance amount
    else if sign == 45 then takes balance amount
    else if sign == 88 then erases balance amount
    else Refused

-- A record needs an amount.
abbrev pub with_amount : ℕ → Option ℕ → Option ℕ → Posting
with_amount sign balance None = Refused
with_amount sign balance (Some amount) = signed sign balance amount

-- What the text behind the key makes of a balance.
abbrev pub behind_key : List ℕ → Option ℕ → Posting
behind_key [] balance = Refused
behind_key (sign ∷ digits) balance = with_amount sign balance (amount_in digits)

-- What a text makes of the balance of a key: it must begin with the key, which must have the full length.
abbrev pub posted : ℕ → List ℕ → Option ℕ → List ℕ → Posting
posted keylen key balance text = if length key == keylen && bytes_eq (take (length key) text) key then behind_key (drop (length key) text) balance else Refused

-- The balance after a record.
abbrev pub balance_after : Option ℕ → Posting → Option ℕ
balance_after old (Applied balance) = balance
balance_after old Refused = old

-- A record where it is refused, and nothing where it is applied.
abbrev pub refused_by : {X : Type 0} → X → Posting → List X
refused_by record_ (Applied balance) = []
refused_by record_ Refused = record_ ∷ []

-- What is left is an amount, if anything is.
abbrev pub HasAmount : Posting → Type 0
HasAmount (Applied None) = Unit {0}
HasAmount (Applied (Some balance)) = balance ≤ AMOUNT_LIMIT
HasAmount Refused = Unit {0}

-- Nothing is applied to a key that hasn't the full length.
abbrev pub IsKeyed : ℕ → List ℕ → Posting → Type 0
IsKeyed keylen key (Applied balance) = length key ≡ keylen
IsKeyed keylen key Refused = Unit {0}
