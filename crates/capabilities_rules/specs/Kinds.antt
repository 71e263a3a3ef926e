-- What a byte is, where a reader stands in a group, and what a byte does there.

-- what a byte is
pub data ByteKind : Type 0 where
  Open : ByteKind
  Close : ByteKind
  Space : ByteKind
  Letter : ByteKind
  Zero : ByteKind
  Other : ByteKind

-- where a reader stands in a group: with no word that could take a group, within a word, or past a word and spaces
pub data Mode : Type 0 where
  Free : Mode
  Word : Mode
  Gap : Mode

-- what a byte does there
pub data Act : Type 0 where
  Enter : Act
  Leave : Act
  Begin : Act
  Extend : Act
  Skip : Act
  Refuse : Act
