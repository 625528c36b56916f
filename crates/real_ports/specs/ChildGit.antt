-- How far git's child was asked, and its answer read.
use Rattle.std.specs.Prelude.{◌≡◌, ◌-◌, ℕ, Bool, List, take, length, String, string_bytes}
use Rattle.real_ports.specs.declared.header_line.HeaderLine.{HeaderLine}
use Rattle.real_ports.specs.declared.rest.Rest.{Rest}
use Rattle.real_ports.specs.declared.rest.Rest.TheVariants.{Header}
use Rattle.real_ports.specs.Goes.{Goes}
use Rattle.real_ports.specs.Rest.{IsLinePart, rest_after}

-- the line begins that answers this name
pub record Begins (header : HeaderLine) (asked : List ℕ) : Type 0 where
  pub empty : header.len ≡ 0
  pub answers : take header.name_len header.name ≡ take 1035 asked

-- a child that serves this directory waits for the header line of an answer to this name
pub record IsAsked {A : Type 0} (served : String A) (rest : Rest) (header : HeaderLine) (dir asked : List ℕ) : Type 0 where
  pub same : string_bytes served ≡ dir
  pub waits : rest ≡ Header
  pub begins : Begins header asked

-- So many of these bytes were read where a header line was to come. A part of them goes on with the line; those behind it are
-- the first of what the line says to come.
pub record Follows (old new : HeaderLine) (bytes : List ℕ) (count : ℕ) (rest : Rest) : Type 0 where
  pub part : List ℕ
  pub ends : Bool
  pub behind : Rest
  pub of_line : IsLinePart (take count bytes) part ends
  pub goes : Goes (take old.name_len old.name) (take old.len old.bytes) part ends behind (take new.len new.bytes)
  pub left : rest ≡ rest_after behind (count - length part)
